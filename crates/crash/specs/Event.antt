-- Events on a card: calls, whole or in parts lent, and power cuts; the world that they leave; which events may happen.
use Rattle.std.specs.Prelude.{Bool, true, ◌&&◌, ◌||◌, not, List, ◌++◌, ℕ, ◌+◌, leb, eqb, length, drop, take}
use Rattle.std.proofs.Math.Option.{Option, none, some}
use Rattle.card_log.specs.Card.{segments_in}
use Rattle.disk.specs.Record.{Record}
use Rattle.disk.specs.Disk.{Disk}
use Rattle.disk.specs.Call.{Call, format, flush, resets}
use Rattle.disk.specs.Questions.{refusal}
use Rattle.disk.specs.Perform.{perform, flushed, formatted}
use Rattle.answers.specs.Answers.{Answer}

-- a part of a buffer that a call is lent: where it starts and how long it is
pub record Part : Type 0 where
  pub from : ℕ
  pub size : ℕ

pub record Parts : Type 0 where
  pub card : Part
  pub queue_data : Part
  pub journal_data : Part

-- "It leaves the card, and anything in the rest"
pub record Rest : Type 0 where
  pub queue_data : List ℕ
  pub journal_data : List ℕ
  pub rec : Record

-- "A cut falls between calls or inside an accepted flush or formatting": inside a flush with its allowance, after so many of its stores
pub data Event : Type 0 where
  called : Call → Parts → Event
  cut_between : Rest → Event
  cut_flush : ℕ → ℕ → Rest → Event
  cut_format : ℕ → Rest → Event

-- what the calls are lent, and whether a cut came after the last accepted mounting or formatting
pub record World : Type 0 where
  pub disk : Disk
  pub down : Bool

unfoldable pub part_of : Part → List ℕ → List ℕ
part_of p l = take p.size (drop p.from l)

unfoldable pub put_back : Part → List ℕ → List ℕ → List ℕ
put_back p l x = take p.from l ++ x ++ drop (p.from + p.size) l

unfoldable pub lend : Parts → Disk → Disk
lend p d = record {
  card = part_of p.card d.card;
  queue_data = part_of p.queue_data d.queue_data;
  journal_data = part_of p.journal_data d.journal_data;
  rec = d.rec;
}

-- "Each call [..] gets what the last left of card, record and both data buffers"
unfoldable pub give_back : Parts → Disk → Disk → Disk
give_back p d x = record {
  card = put_back p.card d.card x.card;
  queue_data = put_back p.queue_data d.queue_data x.queue_data;
  journal_data = put_back p.journal_data d.journal_data x.journal_data;
  rec = x.rec;
}

unfoldable pub is_whole : Part → List ℕ → Bool
is_whole p l = eqb p.from 0 && eqb p.size (length l)

unfoldable pub lent_whole : Parts → Disk → Bool
lent_whole p d = is_whole p.card d.card && is_whole p.queue_data d.queue_data && is_whole p.journal_data d.journal_data

unfoldable pub leaves : List ℕ → Rest → Disk
leaves c x = record { card = c; queue_data = x.queue_data; journal_data = x.journal_data; rec = x.rec }

unfoldable pub is_accepted : Answer → Bool
is_accepted a = eqb a.code 0

-- what a call answers
unfoldable pub answered : World → Event → Option Answer
answered w (called c p) = some (perform c (lend p w.disk)).answer
answered w (cut_between x) = none
answered w (cut_flush a k x) = none
answered w (cut_format k x) = none

-- "A cut after k stores of a flush leaves the card that allowance k leaves, and after k stores of a formatting the last k counts are 0."
unfoldable pub step : World → Event → World
step w (called c p) =
    let r = perform c (lend p w.disk) in
    record { disk = give_back p w.disk r.disk; down = w.down && not (is_accepted r.answer) }
step w (cut_between x) = record { disk = leaves w.disk.card x; down = true }
step w (cut_flush a k x) = record { disk = leaves (flushed k w.disk).flow.card x; down = true }
step w (cut_format k x) = record { disk = leaves (formatted k w.disk.card) x; down = true }

-- "an accepted one all of it"; after a cut "the next accepted call in the list is then a mount or a formatting"
unfoldable pub may_happen : World → Event → Bool
may_happen w (called c p) =
    let r = perform c (lend p w.disk) in
    not (is_accepted r.answer) || lent_whole p w.disk && (not w.down || resets c)
may_happen w (cut_between x) = true
may_happen w (cut_flush a k x) = not w.down && eqb (refusal (flush a) w.disk) 0 && leb k (flushed a w.disk).stores
may_happen w (cut_format k x) = eqb (refusal format w.disk) 0 && leb k (segments_in w.disk.card)
