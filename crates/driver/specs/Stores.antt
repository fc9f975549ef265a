-- The stores that a call makes on the card, listed for a driver whose card is not memory; and what the driver relies on, each statement proved under
-- its own name in proofs.
use Rattle.std.specs.Prelude.{◌≡◌, List, [], ◌++◌, map, ℕ, zero, suc, ◌+◌, ◌*◌, ◌/◌, ◌%◌, ◌≤◌, ◌<◌, length, take, drop}
use Rattle.card_log.specs.Card.{segments_in}
use Rattle.card_log.specs.Store.{Store, do_stores, format_stores}
use Rattle.disk.specs.Disk.{Disk, disk_in}
use Rattle.disk.specs.Call.{Call, format, mount, conflict_count, on_stream, in_view, begin, end, flush}
use Rattle.disk.specs.Questions.{refusal}
use Rattle.disk.specs.Perform.{refusal_answer, perform}
use Rattle.answers.specs.Answers.{Answer}
use Rattle.disk.specs.Statements.{todo}

-- the stores that an accepted call makes on the card, in their order
unfoldable pub stores_made : Call → Disk → List Store
stores_made format d = format_stores (segments_in d.card)
stores_made mount d = []
stores_made (conflict_count w) d = []
stores_made (on_stream s e) d = []
stores_made (in_view v k) d = []
stores_made (begin u w) d = []
stores_made (end u) d = []
stores_made (flush a) d = take a (todo d)

-- where, and what, as one number
unfoldable pub word : Store → ℕ
word x = 256 * x.0 + x.1

-- "A look-up that lists the stores which a flush with a given allowance would make, in order, as offsets and bytes into a lent buffer (at most as many
-- as fit; how many is returned), and one for formatting: promised to be the definition's sequence.": the answer, and what the buffer x holds then
unfoldable pub list_stores : Call → Disk → List ℕ → Answer × List ℕ
list_stores c d x =
    let n = refusal c d in
    elim n [
      | zero ↦ (let ws = take (length x) (map word (stores_made c d)) in (record { code = 0; value = length ws; second = 0 }, ws ++ drop (length ws) x))
      | suc m ↦ (refusal_answer (suc m) d, x)
    ]

-- the stores of call c on the disk that is lent, listed in a buffer that held x and holds x' then, with answer a
abbrev pub Lists : Call → List ℕ → List ℕ → List ℕ → List ℕ → List ℕ → List ℕ → Answer → Type 0
Lists c card q j r x x' a = list_stores c (disk_in card q j r) x ≡ (a, x')

-- The word says both: where, and what, a byte.
abbrev pub WordSays : Type 0
WordSays = (x : Store) → x.1 < 256 → (word x / 256 ≡ x.0) × (word x % 256 ≡ x.1)

-- The stores of an accepted call, made on the card one after the other, leave the card that the call leaves.
abbrev pub StoresMake : Type 0
StoresMake = (c : Call) (d : Disk) → refusal c d ≡ 0 → (perform c d).disk.card ≡ do_stores (stores_made c d) d.card

-- A buffer of 8,352 words takes those of every flush: 32 entries, each a write's data, four bytes and the count.
abbrev pub StoresFew : Type 0
StoresFew = (a : ℕ) (d : Disk) → refusal (flush a) d ≡ 0 → length (stores_made (flush a) d) ≤ 8352

-- A driver that made k of a flush's listed stores on its device makes the flush with allowance k on its copy: that is accepted, makes k stores, and
-- both hold the same bytes.
abbrev pub DriverFlush : Type 0
DriverFlush =
    (a k : ℕ) (d : Disk) → refusal (flush a) d ≡ 0 → k ≤ length (stores_made (flush a) d)
    → (do_stores (take k (stores_made (flush a) d)) d.card ≡ (perform (flush k) d).disk.card)
    × ((perform (flush k) d).answer.value ≡ k)
    × (refusal (flush k) d ≡ 0)
