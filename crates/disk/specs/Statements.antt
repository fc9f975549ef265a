-- What document 01 says of records, flushes and formattings beside the calls' promises: statements, each proved under its own name in proofs.
use Rattle.std.specs.Prelude.{◌≡◌, ◌⊎◌, ◌≢◌, true, false, ◌&&◌, cond, List, ℕ, ◌+◌, ◌-◌, ◌≤◌, ◌<◌, min, eqb, length, get_or, take, drop}
use Rattle.std.proofs.Math.Option.{none, some}
use Rattle.lists.specs.InUse.{list_number, in_use}
use Rattle.lists.specs.Lookup.{list_nums}
use Rattle.card_log.specs.Card.{card_length, segments_in, count}
use Rattle.card_log.specs.Store.{Store, do_stores}
use Rattle.card_log.specs.Flush.{rest}
use Rattle.card_log.specs.Turns.{Steps, Clears}
use Rattle.listing.specs.Page.{page_text, page_most}
use Rattle.disk.specs.Record.{record_in, holder_of, count_of}
use Rattle.disk.specs.Disk.{Disk, unit_of, queued, committed, view}
use Rattle.disk.specs.Sound.{lengths_right, record_sound}
use Rattle.disk.specs.Call.{Edit, new_list, inventory, page, Call, on_stream, in_view, end, flush, ends, resets}
use Rattle.disk.specs.Questions.{view_open, is_window, refusal}
use Rattle.disk.specs.Perform.{flow_of, flushed, formatted, perform}

-- "Every accepted call, and refusal 12, leaves a record that is sound by question 3; this is proved." On any disk; the lengths stay right.
abbrev pub LeavesSound : Type 0
LeavesSound =
    (c : Call) (d : Disk) → (refusal c d ≡ 0) ⊎ (refusal c d ≡ 12)
    → let e = (perform c d).disk in (lengths_right e ≡ true) × (record_sound e ≡ true)

-- "says of each result, the record and each lent byte [..] which definition it equals": a promise about the record's parts fixes each of its bytes
abbrev pub IsBytes : List ℕ → Type 0
IsBytes bs = (i : ℕ) → get_or bs i 0 < 256

abbrev pub RecordFixed : Type 0
RecordFixed = (bs cs : List ℕ) → length bs ≡ 573 → length cs ≡ 573 → IsBytes bs → IsBytes cs → record_in bs ≡ record_in cs → bs ≡ cs

-- "the inventory, which fills 16 lent bytes with the lists taken in a view, [..] other bytes unchanged, and returns how many": n of them, ls in their
-- order, in the destination y, which held x
pub record Fills (ls : List ℕ) (n : ℕ) (x y : List ℕ) : Type 0 where
  pub many : n ≡ length ls
  pub first : take n y ≡ ls
  pub others : drop n y ≡ drop n x
  pub size : length y ≡ length x

-- an accepted one fills in the lists of its view in the order of their taking; which order that is by the serial history: crash/specs/History
abbrev pub InventoryFills : Type 0
InventoryFills =
    (v : ℕ) (x : List ℕ) (d : Disk) → refusal (in_view v (inventory x)) d ≡ 0
    → let r = perform (in_view v (inventory x)) d in Fills (list_nums (view d v).lists) r.answer.value x r.lent

-- "The text goes into a lent buffer, its length is returned, and bytes after it don't change.": an accepted page
abbrev pub PageFills : Type 0
PageFills =
    (v : ℕ) (x : List ℕ) (d : Disk) → refusal (in_view v (page x)) d ≡ 0
    → let r = perform (in_view v (page x)) d in Fills (page_text (view d v).lists) r.answer.value x r.lent

-- a refused one leaves the buffer as it was
abbrev pub PageRefused : Type 0
PageRefused = (v : ℕ) (x : List ℕ) (d : Disk) → refusal (in_view v (page x)) d ≢ 0 → (perform (in_view v (page x)) d).lent ≡ x

-- how long the page of an open view is at most; a buffer of so many bytes is never too short
abbrev pub PageBounded : Type 0
PageBounded =
    (v : ℕ) (d : Disk) → lengths_right d ≡ true → record_sound d ≡ true → view_open d v ≡ true
    → (length (page_text (view d v).lists) ≤ page_most) × ((x : List ℕ) → page_most ≤ length x → refusal (in_view v (page x)) d ≡ 0)

-- "With allowance m+n it leaves what m, then n leaves, m+n being in range.": the disk; the stores add up, and the ending is the second's
abbrev pub FlushSum : Type 0
FlushSum =
    (m n : ℕ) (d : Disk) → refusal (flush (m + n)) d ≡ 0
    → let x = perform (flush m) d in let y = perform (flush n) x.disk in let z = perform (flush (m + n)) d in
    (z.disk ≡ y.disk) × (z.answer.value ≡ x.answer.value + y.answer.value) × (z.answer.second ≡ y.answer.second)

-- the stores that a disk has still to do, in their order: the sequence along which flushes go
unfoldable pub todo : Disk → List Store
todo d = rest (segments_in d.card) (flow_of d)

-- "The reported stores are the difference in place along this sequence."
abbrev pub ReportedStores : Type 0
ReportedStores =
    (a : ℕ) (d : Disk) → refusal (flush a) d ≡ 0 → let r = perform (flush a) d in r.answer.value ≡ length (todo d) - length (todo r.disk)

-- "A cut after k stores of a flush leaves the card that allowance k leaves": the first k of the stores that allowance a allows
abbrev pub CutAfter : Type 0
CutAfter =
    (a k : ℕ) (d : Disk) → refusal (flush a) d ≡ 0 → k ≤ (perform (flush a) d).answer.value
    → do_stores (take k (take a (todo d))) d.card ≡ (perform (flush k) d).disk.card

-- "and after k stores of a formatting the last k counts are 0"
abbrev pub CutFormat : Type 0
CutFormat = (k : ℕ) (c : List ℕ) → card_length c ≡ true → k ≤ segments_in c → (g : ℕ) → segments_in c ≤ g + k → g < segments_in c → count (formatted k c) g ≡ 0

-- "storing the count before the entry": the order of a flush's stores in time. Steps, each of which is required of the card as it is, lead after k of
-- them to the card that allowance k leaves, and to no other; and that many such steps there are.
pub record StepsOfFlush (d : Disk) : Type 0 where
  pub only : (k : ℕ) (c : List ℕ) → Steps d.card (queued d) d.rec.ring.done k c → c ≡ (flushed k d).flow.card
  pub each : (k : ℕ) → (flushed k d).stores ≡ k → Steps d.card (queued d) d.rec.ring.done k (flushed k d).flow.card

abbrev pub FlushInOrder : Type 0
FlushInOrder = (d : Disk) → lengths_right d ≡ true → record_sound d ≡ true → StepsOfFlush d

-- and of a formatting's: its k-th card
pub record StepsOfFormat (c : List ℕ) : Type 0 where
  pub only : (k : ℕ) (c' : List ℕ) → Clears c (segments_in c) k c' → c' ≡ formatted k c
  pub each : (k : ℕ) → k ≤ segments_in c → Clears c (segments_in c) k (formatted k c)

abbrev pub FormatInOrder : Type 0
FormatInOrder = (c : List ℕ) → card_length c ≡ true → StepsOfFormat c

-- "Each window has its own count, which stops at 65,535 and is 0 after mounting"; "An End refused 12 raises the count of the window its unit's Begin
-- named and no other; other refusals raise none.": window w's count after a call that answers n
unfoldable pub count_after : Call → ℕ → Disk → ℕ → ℕ
count_after c n d w =
    let k = count_of d.rec w in
    cond (resets c && eqb n 0) 0
    (elim (ends c) [ none ↦ k | some u ↦ cond (eqb n 12 && eqb (unit_of d u).window w) (min 65535 (k + 1)) k ])

-- whatever the call and the disk
abbrev pub CountsMove : Type 0
CountsMove = (c : Call) (d : Disk) (w : ℕ) → is_window w ≡ true → let r = perform c d in count_of r.disk.rec w ≡ count_after c r.answer.code d w

-- "the number is held by the unit and so free for no stream": what NewList gives, on whatever stream, no unit held and the committed state had not taken;
-- inside a unit the unit holds it then
abbrev pub ListGiven : Type 0
ListGiven =
    (s : ℕ) (d : Disk) → refusal (on_stream s new_list) d ≡ 0
    → let r = perform (on_stream s new_list) d in let n = list_number r.answer.value in
    (holder_of d.rec n ≡ 0) × (in_use n (committed d).lists ≡ false) × (holder_of r.disk.rec n ≡ s)

-- and so until the unit ends, whatever it deletes: no other call, accepted or refused, releases a number, block or list, but one that sets the record anew
abbrev pub HeldUntilEnd : Type 0
HeldUntilEnd =
    (c : Call) (d : Disk) (n : ℕ) → let u = holder_of d.rec n in
    u ≢ 0 → resets c ≡ false → ends c ≢ some u → holder_of (perform c d).disk.rec n ≡ u

-- "only that unit's view has the list": what comes in unit u changes no other open view
abbrev pub UnitApart : Type 0
UnitApart = (u : ℕ) (e : Edit) (d : Disk) → u ≢ 0 → (v : ℕ) → u ≢ v → view_open d v ≡ true → view (perform (on_stream u e) d).disk v ≡ view d v

-- "A lost unit leaves it in no view": nor does a unit that is refused 12; a unit lost with the power: crash/specs/LostUnit
abbrev pub ConflictApart : Type 0
ConflictApart = (u : ℕ) (d : Disk) → refusal (end u) d ≡ 12 → (v : ℕ) → u ≢ v → view_open d v ≡ true → view (perform (end u) d).disk v ≡ view d v
