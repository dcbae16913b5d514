-- The lines of events.
use Rattle.std.specs.Prelude.{ℕ, Option, Some, None, List, [], ◌∷◌, codes}
use Rattle.std.specs.Option.{option_map}
use Rattle.mq_block_text.specs.Words.{words_of, one_of, two_of, number_in}
use Rattle.mq_blocks.specs.declared.geometry.Geometry.{Geometry}
use Rattle.mq_core.specs.declared.event.Event.{Event}
use Rattle.mq_core.specs.declared.event.Event.TheVariants.{Draw as make_draw, Stage as make_stage, Flush as make_flush, Ring as make_ring, Complete as make_complete, FailCommand as make_failed, StoreHead as make_store_head, FlushHead as make_flush_head, Clear as make_clear, Acknowledge as make_ack, WriteHome as make_home, HomeDone as make_home_done, StoreBase as make_store_base, FlushBase as make_flush_base}
use Rattle.mq_ledger.specs.declared.tx.Tx.{Tx}
use Rattle.mq_audit.specs.Answers.{and_then}
use Rattle.mq_audit.specs.Lists.{sets_in, blocks_in, headed, cut_by}
use Rattle.mq_audit.specs.Verbs.{verb_in}
use Rattle.mq_audit.specs.Words.{queue_in, block_in}
use Rattle.mq_audit.specs.declared.verb.Verb.{Verb}
use Rattle.mq_audit.specs.declared.verb.Verb.TheVariants.{Draw, Stage, Flush, Ring, Complete, Failed, StoreHead, FlushHead, Clear, Ack, Home, HomeDone, StoreBase, FlushBase}

-- ---- what follows a verb

abbrev pub a_queue : Geometry → List (List ℕ) → Option ℕ
a_queue g words = and_then (one_of words) (λ w. queue_in g w)

abbrev pub a_block : Geometry → List (List ℕ) → Option ℕ
a_block g words = and_then (one_of words) (λ w. block_in g w)

abbrev pub a_number : List (List ℕ) → Option ℕ
a_number words = and_then (one_of words) (λ w. number_in w)

abbrev pub a_queue_and_a_number : Geometry → List (List ℕ) → Option (ℕ × ℕ)
a_queue_and_a_number g words =
    and_then (two_of words) (λ w.
    and_then (queue_in g w.0) (λ q.
    and_then (number_in w.1) (λ n. Some (q, n))))

-- the words of the four lists of a draw
abbrev pub lists_of : List (List ℕ) → Option (List (List ℕ) × List (List ℕ) × List (List ℕ) × List (List ℕ))
lists_of words =
    and_then (headed (codes "logged") words) (λ a.
    and_then (cut_by (codes "direct") a) (λ b.
    and_then (cut_by (codes "revoked") b.1) (λ c.
    and_then (cut_by (codes "freed") c.1) (λ d. Some (b.0, c.0, d.0, d.1)))))

-- the transaction of this number on this queue, with these lists
abbrev pub tx_in : Geometry → (number queue : ℕ) → List (List ℕ) → Option Tx
tx_in g number queue words =
    and_then (lists_of words) (λ l.
    and_then (sets_in g 0 l.0) (λ logged.
    and_then (sets_in g 0 l.1) (λ direct.
    and_then (blocks_in g 0 l.2) (λ revoked.
    and_then (blocks_in g 0 l.3) (λ freed.
    Some (record {
      number = number;
      queue = queue;
      logged = logged;
      direct = direct;
      revoked = revoked;
      freed = freed;
    }))))))

abbrev pub draw_in : Geometry → ℕ → List (List ℕ) → Option Tx
draw_in g number [] = None
draw_in g number (w ∷ words) = and_then (queue_in g w) (λ q. tx_in g number q words)

abbrev pub no_words : List (List ℕ) → Option Event
no_words [] = Some make_flush_base
no_words (w ∷ words) = None

-- the events of the verbs that a queue follows
abbrev pub queue_event : Verb → ℕ → Event
queue_event Stage q = make_stage q
queue_event Flush q = make_flush q
queue_event Ring q = make_ring q
queue_event verb q = make_flush_head q

-- the events of the verbs that a queue and a number follow
abbrev pub counted_event : Verb → ℕ → ℕ → Event
counted_event Complete q n = make_complete q n
counted_event Failed q n = make_failed q n
counted_event StoreHead q n = make_store_head q n
counted_event verb q n = make_clear q n

-- the event of a verb, where a draw has this number
abbrev pub event_of : Geometry → ℕ → Verb → List (List ℕ) → Option Event
event_of g number Draw words = option_map (λ t. make_draw t) (draw_in g number words)
event_of g number Stage words = option_map (λ q. make_stage q) (a_queue g words)
event_of g number Flush words = option_map (λ q. make_flush q) (a_queue g words)
event_of g number Ring words = option_map (λ q. make_ring q) (a_queue g words)
event_of g number Complete words = option_map (λ x. make_complete x.0 x.1) (a_queue_and_a_number g words)
event_of g number Failed words = option_map (λ x. make_failed x.0 x.1) (a_queue_and_a_number g words)
event_of g number StoreHead words = option_map (λ x. make_store_head x.0 x.1) (a_queue_and_a_number g words)
event_of g number FlushHead words = option_map (λ q. make_flush_head q) (a_queue g words)
event_of g number Clear words = option_map (λ x. make_clear x.0 x.1) (a_queue_and_a_number g words)
event_of g number Ack words = option_map (λ n. make_ack n) (a_number words)
event_of g number Home words = option_map (λ b. make_home b) (a_block g words)
event_of g number HomeDone words = option_map (λ b. make_home_done b) (a_block g words)
event_of g number StoreBase words = option_map (λ n. make_store_base n) (a_number words)
event_of g number FlushBase words = no_words words

-- ---- a line

abbrev pub verb_event : Geometry → ℕ → Option Verb → List (List ℕ) → Option Event
verb_event g number None words = None
verb_event g number (Some verb) words = event_of g number verb words

-- the first word is the verb
abbrev pub event_in_words : Geometry → ℕ → List (List ℕ) → Option Event
event_in_words g number [] = None
event_in_words g number (w ∷ words) = verb_event g number (verb_in w) words

abbrev pub event_in : Geometry → ℕ → List ℕ → Option Event
event_in g number line = event_in_words g number (words_of line)
