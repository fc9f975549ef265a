-- Power cuts, between calls and inside a flush or a formatting.
use Rattle.std.specs.Prelude.{◌≡◌, cond, Result, Ok, Err, List, [], ◌∷◌, ◌++◌, ℕ, min, eqb, leb, length, replicate}
use Rattle.card_log.specs.Card.{segments_in}
use Rattle.disk.specs.Record.{Record, record_in}
use Rattle.disk.specs.Disk.{Disk}
use Rattle.disk.specs.Call.{format, flush}
use Rattle.disk.specs.Questions.{refusal}
use Rattle.disk.specs.Perform.{perform, formatted}
use Rattle.answers.specs.declared.Refusal.{Refusal}
use Rattle.answers.specs.Answers.{number}
use Rattle.crash.specs.Event.{Rest, leaves, put_back}
use Rattle.text.specs.Written.{Puts}
use Rattle.script.specs.Spelling.{bytes}
use Rattle.script.specs.Lines.{number_line, cut_line}
use Rattle.commands.specs.declared.state.State.{State}
use Rattle.commands.specs.declared.state.Ran.{Ran}
use Rattle.commands.specs.Shell.{Shell, Printed, printed, with_disk, first_bytes, lent_disk}

-- a record whose bytes are all 165: its queue has 32 places, and the head and the length are 165
unfoldable pub unsound_bytes : List ℕ
unsound_bytes = replicate 573 165

abbrev pub unsound_record : Record
unsound_record = record_in unsound_bytes

-- "both data buffers become all 165, the record one that is not sound"
unfoldable pub lost : Disk → Rest
lost d = record {
  queue_data = replicate (length d.queue_data) 165;
  journal_data = replicate (length d.journal_data) 165;
  rec = unsound_record;
}

-- the lent part of the card holds these bytes, and the rest is lost
unfoldable pub cut_off : Shell → List ℕ → Shell
cut_off s c = with_disk s (leaves (put_back (first_bytes s.lent_card) s.disk.card c) (lost s.disk))

-- "a power cut between calls"
unfoldable pub cut_between : Shell → Printed
cut_between s = record { shell = with_disk s (leaves s.disk.card (lost s.disk)); text = bytes "cut" ++ 10 ∷ [] }

-- "a flush with allowance N, cut after K of its stores (all of them if it makes fewer); refused: prints `A`, and there is no cut". "A cut after k stores of
-- a flush leaves the card that allowance k leaves"; an allowance out of range stays so.
unfoldable pub cut_allowance : ℕ → ℕ → ℕ
cut_allowance n k = cond (leb n 65535) (min n k) n

-- what such a call makes of what it is lent: how it answers, the stores that it made, and the lent card then
pub record Broken : Type 0 where
  pub code : ℕ
  pub stores : ℕ
  pub card : List ℕ

unfoldable pub broken_flush : ℕ → ℕ → Disk → Broken
broken_flush n k d =
    let r = perform (flush (cut_allowance n k)) d in
    record { code = r.answer.code; stores = r.answer.value; card = r.disk.card }

-- "a formatting, cut after K of its stores, in the same way"
unfoldable pub broken_format : ℕ → Disk → Broken
broken_format k d = record { code = refusal format d; stores = min k (segments_in d.card); card = formatted k d.card }

unfoldable pub cut_short : Broken → Shell → Printed
cut_short b s = cond (eqb b.code 0) (printed (cut_off s b.card) (cut_line b.stores)) (printed s (number_line b.code))

unfoldable pub cut_flush : ℕ → ℕ → Shell → Printed
cut_flush n k s = cut_short (broken_flush n k (lent_disk s)) s

unfoldable pub cut_format : ℕ → Shell → Printed
cut_format k s = cut_short (broken_format k (lent_disk s)) s

-- In code: the lent card c becomes c', and the reply tells the stores made, or the refusal.
unfoldable pub Breaks : Broken → List ℕ → List ℕ → Result ℕ Refusal → Type 0
Breaks b c c' (Ok k) = (b.code ≡ 0) × (b.stores ≡ k) × (b.card ≡ c')
Breaks b c c' (Err x) = (b.code ≡ number x) × (c ≡ c')

-- the reply is printed, and the rest is lost unless it is a refusal
unfoldable pub Loses : Result ℕ Refusal → List ℕ → List ℕ → State → List ℕ → ℕ → List ℕ → List ℕ → List ℕ → Ran → Type 0
Loses (Ok k) q j s out at q' j' out' r =
    (r.state ≡ record { rec = unsound_bytes; size = s.size; card = s.card; queue = s.queue; journal = s.journal })
    × (q' ≡ replicate (length q) 165) × (j' ≡ replicate (length j) 165) × Puts out at (cut_line k) out' r.at
Loses (Err x) q j s out at q' j' out' r = (r.state ≡ s) × (q ≡ q') × (j ≡ j') × Puts out at (number_line (number x)) out' r.at
