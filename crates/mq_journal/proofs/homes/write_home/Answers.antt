use Rattle.std.proofs.Common.{sym}
use Rattle.mq_turns.specs.AtDesk.{view, start_of}
use Rattle.mq_journal.proofs.PagesHomeViews.{above, has_page, holds_port, home_held, home_moves, is_home, may_home, mine, noted_holds, noted_port, refused_port, report_held, report_refused}
use Rattle.mq_journal.proofs.RaisedHomeSide.{home_of_root}
use Rattle.mq_journal.proofs.homes.write_home.Goals as goal

pub take-port-requires-clause-turn : goal.take-port-requires-clause-turn
take-port-requires-clause-turn g c =
    let k = has_page g.P.Port.state g.P.Port.faults g.G.Groups.group (start_of c.args.desk.now) c.args.block c.args.cell.now c.args.geometry c.port_of.result (view c.args.chair.now) c.requires.at.1 c.requires.page c.requires.shape c.requires.sides c.requires.home c.port_of.ensures in
    mine _ _ _ k

pub take-port-requires-clause-above : goal.take-port-requires-clause-above
take-port-requires-clause-above g c =
    let k = has_page g.P.Port.state g.P.Port.faults g.G.Groups.group (start_of c.args.desk.now) c.args.block c.args.cell.now c.args.geometry c.port_of.result (view c.args.chair.now) c.requires.at.1 c.requires.page c.requires.shape c.requires.sides c.requires.home c.port_of.ensures in
    above _ _ _ k

pub write_by-step-requires : goal.write_by-step-requires
write_by-step-requires g c =
    let k = has_page g.P.Port.state g.P.Port.faults g.G.Groups.group (start_of c.args.desk.now) c.args.block c.args.cell.now c.args.geometry c.port_of.result (view c.args.chair.now) c.requires.at.1 c.requires.page c.requires.shape c.requires.sides c.requires.home c.port_of.ensures in
    let v1 = view c.take-port.new.chair in
    let x = c.take-port.result in
    let t = c.take-port.ensures.took in
    is_home _ _ _ k v1 x t c.home.result c.home.ensures

pub note_home-requires-clause-may : goal.note_home-requires-clause-may
note_home-requires-clause-may g c =
    let k = has_page g.P.Port.state g.P.Port.faults g.G.Groups.group (start_of c.args.desk.now) c.args.block c.args.cell.now c.args.geometry c.port_of.result (view c.args.chair.now) c.requires.at.1 c.requires.page c.requires.shape c.requires.sides c.requires.home c.port_of.ensures in
    let v1 = view c.take-port.new.chair in
    let x = c.take-port.result in
    let t = c.take-port.ensures.took in
    may_home _ _ _ k v1 x t c.requires.due

pub give_back-requires-clause-turn : goal.give_back-requires-clause-turn
give_back-requires-clause-turn g c =
    let k = has_page g.P.Port.state g.P.Port.faults g.G.Groups.group (start_of c.args.desk.now) c.args.block c.args.cell.now c.args.geometry c.port_of.result (view c.args.chair.now) c.requires.at.1 c.requires.page c.requires.shape c.requires.sides c.requires.home c.port_of.ensures in
    mine _ _ _ k

pub give_back-requires-clause-holds : goal.give_back-requires-clause-holds
give_back-requires-clause-holds g c =
    let k = has_page g.P.Port.state g.P.Port.faults g.G.Groups.group (start_of c.args.desk.now) c.args.block c.args.cell.now c.args.geometry c.port_of.result (view c.args.chair.now) c.requires.at.1 c.requires.page c.requires.shape c.requires.sides c.requires.home c.port_of.ensures in
    let v1 = view c.take-port.new.chair in
    let x = c.take-port.result in
    let t = c.take-port.ensures.took in
    noted_holds _ _ _ k v1 x t (view c.note_home.new.chair) c.note_home.ensures.noted

pub give_back-requires-clause-stands : goal.give_back-requires-clause-stands
give_back-requires-clause-stands g c =
    let k = has_page g.P.Port.state g.P.Port.faults g.G.Groups.group (start_of c.args.desk.now) c.args.block c.args.cell.now c.args.geometry c.port_of.result (view c.args.chair.now) c.requires.at.1 c.requires.page c.requires.shape c.requires.sides c.requires.home c.port_of.ensures in
    let v1 = view c.take-port.new.chair in
    let x = c.take-port.result in
    let t = c.take-port.ensures.took in
    noted_port _ _ _ k v1 x t (view c.note_home.new.chair) c.note_home.ensures.noted c.requires.due c.write_by-step.new.port c.write_by-step.result c.home.result c.home.ensures c.args.copy c.write_by-step.ensures (sym c.in-Ok.ensures) c.requires.content

pub report_port-requires-clause-of_port : goal.report_port-requires-clause-of_port
report_port-requires-clause-of_port g c =
    let k = has_page g.P.Port.state g.P.Port.faults g.G.Groups.group (start_of c.args.desk.now) c.args.block c.args.cell.now c.args.geometry c.port_of.result (view c.args.chair.now) c.requires.at.1 c.requires.page c.requires.shape c.requires.sides c.requires.home c.port_of.ensures in
    (k.port, λ same. home_of_root c.args.block c.write_by-step.result c.in-Err.cause (sym c.in-Err.ensures))

pub report_port-requires-clause-holds : goal.report_port-requires-clause-holds
report_port-requires-clause-holds g c =
    let k = has_page g.P.Port.state g.P.Port.faults g.G.Groups.group (start_of c.args.desk.now) c.args.block c.args.cell.now c.args.geometry c.port_of.result (view c.args.chair.now) c.requires.at.1 c.requires.page c.requires.shape c.requires.sides c.requires.home c.port_of.ensures in
    let v1 = view c.take-port.new.chair in
    let x = c.take-port.result in
    let t = c.take-port.ensures.took in
    holds_port _ _ _ k v1 x t

pub report_port-requires-clause-shows : goal.report_port-requires-clause-shows
report_port-requires-clause-shows g c =
    let k = has_page g.P.Port.state g.P.Port.faults g.G.Groups.group (start_of c.args.desk.now) c.args.block c.args.cell.now c.args.geometry c.port_of.result (view c.args.chair.now) c.requires.at.1 c.requires.page c.requires.shape c.requires.sides c.requires.home c.port_of.ensures in
    let v1 = view c.take-port.new.chair in
    let x = c.take-port.result in
    let t = c.take-port.ensures.took in
    refused_port _ _ _ k v1 x t c.requires.due c.write_by-step.new.port c.write_by-step.result c.home.result c.home.ensures c.args.copy c.write_by-step.ensures c.in-Err.cause (sym c.in-Err.ensures)

pub returns-in-Ok-clause-wrote : goal.returns-in-Ok-clause-wrote
returns-in-Ok-clause-wrote g c =
    let k = has_page g.P.Port.state g.P.Port.faults g.G.Groups.group (start_of c.args.desk.now) c.args.block c.args.cell.now c.args.geometry c.port_of.result (view c.args.chair.now) c.requires.at.1 c.requires.page c.requires.shape c.requires.sides c.requires.home c.port_of.ensures in
    let v1 = view c.take-port.new.chair in
    let x = c.take-port.result in
    let t = c.take-port.ensures.took in
    home_held _ _ _ k v1 x t (view c.note_home.new.chair) c.note_home.ensures.noted (view c.give_back.new.chair) c.give_back.ensures.gave c.requires.due

pub returns-in-Ok-clause-moves : goal.returns-in-Ok-clause-moves
returns-in-Ok-clause-moves g c =
    let k = has_page g.P.Port.state g.P.Port.faults g.G.Groups.group (start_of c.args.desk.now) c.args.block c.args.cell.now c.args.geometry c.port_of.result (view c.args.chair.now) c.requires.at.1 c.requires.page c.requires.shape c.requires.sides c.requires.home c.port_of.ensures in
    let v1 = view c.take-port.new.chair in
    let x = c.take-port.result in
    let t = c.take-port.ensures.took in
    home_moves _ _ _ k v1 x t (view c.note_home.new.chair) c.note_home.ensures.noted (view c.give_back.new.chair) c.give_back.ensures.gave

pub returns-in-Err-clause-left : goal.returns-in-Err-clause-left
returns-in-Err-clause-left g c =
    let k = has_page g.P.Port.state g.P.Port.faults g.G.Groups.group (start_of c.args.desk.now) c.args.block c.args.cell.now c.args.geometry c.port_of.result (view c.args.chair.now) c.requires.at.1 c.requires.page c.requires.shape c.requires.sides c.requires.home c.port_of.ensures in
    let v1 = view c.take-port.new.chair in
    let x = c.take-port.result in
    let t = c.take-port.ensures.took in
    report_held _ _ _ k v1 x t c.in-Err.cause (view c.report_port.new.chair) c.report_port.ensures.reported

pub returns-in-Err-clause-refused : goal.returns-in-Err-clause-refused
returns-in-Err-clause-refused g c =
    let k = has_page g.P.Port.state g.P.Port.faults g.G.Groups.group (start_of c.args.desk.now) c.args.block c.args.cell.now c.args.geometry c.port_of.result (view c.args.chair.now) c.requires.at.1 c.requires.page c.requires.shape c.requires.sides c.requires.home c.port_of.ensures in
    let v1 = view c.take-port.new.chair in
    let x = c.take-port.result in
    let t = c.take-port.ensures.took in
    report_refused _ _ _ k v1 x t c.in-Err.cause (view c.report_port.new.chair) c.report_port.ensures.reported c.write_by-step.new.port c.write_by-step.result c.home.result c.args.copy c.write_by-step.ensures (sym c.in-Err.ensures)
