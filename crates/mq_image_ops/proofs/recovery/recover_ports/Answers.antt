use Rattle.mq_drive.specs.Emu.{emu_faults, emu_state}
use Rattle.mq_recover.specs.Drives.{drive_of, faults_on}
use Rattle.mq_image_ops.proofs.CutsRecoverings.{never-failed, ran-short}
use Rattle.mq_image_ops.proofs.recovery.recover_ports.Goals as goal

pub check_power-requires : goal.check_power-requires
check_power-requires c = never-failed c.args.geometry c.args.ports.now c.recover.new.ports c.in-Err.refusal c.requires.still c.requires.sound c.recover.ensures.bounds c.recover.ensures.count c.in-Err.ensures.cause

pub returns-in_ok-check_power-in-Err-clause-ok : goal.returns-in_ok-check_power-in-Err-clause-ok
returns-in_ok-check_power-in-Err-clause-ok c =
    ran-short c.args.geometry (drive_of emu_state c.args.ports.now) (drive_of emu_state c.recover.new.ports) (faults_on emu_faults c.args.ports.now) (faults_on emu_faults c.recover.new.ports) c.in_ok-looked.looked c.in-Err.refusal
    c.in_ok-check_power-in-Err.ensures.off c.in_ok-looked.ensures.ok c.in-Err.ensures.drive c.in-Err.ensures.cause
