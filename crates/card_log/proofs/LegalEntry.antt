-- What makes a declared entry legal, kind by kind.
use mathlib.Core.Path.{◌≡◌, refl, sym, ap}
use mathlib.Core.Bool.{Bool, true, false, ◌&&◌, and-true as and_yes}
use Rattle.card_log.specs.Entry.{is_block, is_list, is_count, is_race, member, as_change, legal, legal_change, raw, map_entry, as_entry}
use Rattle.lists.specs.Change.{map_change}
use Rattle.card_log.specs.declared.entry.LogEntry.{LogEntry}
use Rattle.card_log.specs.declared.entry.LogEntry.TheVariants.{Take, PutFirst, PutAfter, Write, DeleteBlock, DeleteList, Commit}

-- the test of a member's numbers
abbrev pub tested : LogEntry → Bool
tested (Take l) = is_list l
tested (PutFirst b l) = is_block b && is_list l
tested (PutAfter b l p) = is_block b && is_list l && is_block p
tested (Write b s n) = is_block b && is_race n
tested (DeleteBlock b) = is_block b
tested (DeleteList l) = is_list l
tested (Commit n) = false

pub member-tested : (e : LogEntry) → tested e ≡ legal (raw 0 (member (as_change e)))
unfolding legal legal_change raw map_entry map_change as_change
member-tested (Take l) = refl
member-tested (PutFirst b l) = refl
member-tested (PutAfter b l p) = refl
member-tested (Write b s n) = ap (λ (t : Bool). t && is_race n) (sym (and_yes (is_block b)))
member-tested (DeleteBlock b) = refl
member-tested (DeleteList l) = refl
member-tested (Commit n) = refl

-- the test of an entry's, by the member's where that has a map
abbrev pub tested_as : Bool → Bool → LogEntry → Bool
tested_as m t (Take l) = t
tested_as m t (PutFirst b l) = t
tested_as m t (PutAfter b l p) = t
tested_as m t (Write b s n) = t
tested_as m t (DeleteBlock b) = t
tested_as m t (DeleteList l) = t
tested_as m t (Commit n) = is_count n

pub legal-tested : (m : Bool) (e : LogEntry) → tested_as m (legal (raw 0 (member (as_change e)))) e ≡ legal (raw 0 (as_entry m e))
unfolding legal legal_change raw map_entry map_change as_entry as_change
legal-tested true (Take l) = refl
legal-tested false (Take l) = refl
legal-tested true (PutFirst b l) = refl
legal-tested false (PutFirst b l) = refl
legal-tested true (PutAfter b l p) = refl
legal-tested false (PutAfter b l p) = refl
legal-tested true (Write b s n) = refl
legal-tested false (Write b s n) = refl
legal-tested true (DeleteBlock b) = refl
legal-tested false (DeleteBlock b) = refl
legal-tested true (DeleteList l) = refl
legal-tested false (DeleteList l) = refl
legal-tested m (Commit n) = refl
