-- The table of holders: who holds a number, block or list, after a unit takes it or gives up what it holds, and what a sound journal says of the
-- numbers that it brings into use.
use mathlib.Core.Path.{◌≡◌, refl, sym, ap, ◌∙◌}
use mathlib.Core.Logic.{◌≢◌, ⊎_elim}
use mathlib.Core.Bool.{Bool, true, false, not, cond, or-true, false≢true}
use mathlib.Core.List.{List, [], ◌∷◌, ◌++◌, map}
use Prim.Native.Nat.{ℕ, zero, suc, ◌-◌, ◌≤◌}
use native.Mathlib.Omega.{arith}
use lib.Dec.{eqb}
use lib.ListN.{length, get_or}
use lib.Seq.{get_or-set_same, get_or-set_other}
use Rattle.lists.specs.Basic.{any, all, keep}
use Rattle.lists.specs.Change.{Change, take_list, put_first, put_after, write, del_block, del_list}
use Rattle.lists.specs.State.{Row, State, frees}
use Rattle.lists.specs.InUse.{list_number, brings}
use Rattle.lists.proofs.Basic.{and-true, or_cases, eqb_same, eqb-true, eqb-false, eq-true, all-each}
use Rattle.lists.proofs.InUse.{brought}
use Rattle.card_log.specs.Entry.{member, raw, legal}
use Rattle.card_log.specs.Card.{Written}
use Rattle.disk.specs.Record.{Record, holder_of, listed_in, released, with_listed}
use Rattle.disk.specs.Disk.{Disk}
use Rattle.disk.specs.Sound.{journal_sound}
use Rattle.disk.specs.Perform.{hold, relisted, given, freed, noted, closing}

-- The holders when unit u gives up what it holds.
get_or-map : (f : ℕ → ℕ) (l : List ℕ) (i : ℕ) → f 0 ≡ 0 → get_or (map f l) i 0 ≡ f (get_or l i 0)
get_or-map f [] i h = sym h
get_or-map f (x ∷ l) zero h = refl
get_or-map f (x ∷ l) (suc i) h = get_or-map f l i h

released-at : (u : ℕ) (hs : List ℕ) (i : ℕ) → get_or (released u hs) i 0 ≡ cond (eqb (get_or hs i 0) u) 0 (get_or hs i 0)
unfolding released
released-at u hs i = get_or-map (λ h. cond (eqb h u) 0 h) hs i (none (eqb 0 u))
  where
    none : (b : Bool) → ◌≡◌ {A = ℕ} (cond b 0 0) 0
    none true = refl
    none false = refl

pub closing-holder : (u : ℕ) (s : State Written) (d : Disk) (b : ℕ) → holder_of d.rec b ≢ u → holder_of (closing u s d).rec b ≡ holder_of d.rec b
unfolding closing relisted with_listed
closing-holder u s d b n = released-at u d.rec.held.holder (b - 1) ∙ rw (eqb-false (holder_of d.rec b) u n)

pub closing-released : (u : ℕ) (s : State Written) (d : Disk) (b : ℕ) → holder_of d.rec b ≡ u → holder_of (closing u s d).rec b ≡ 0
unfolding closing relisted with_listed
closing-released u s d b e = released-at u d.rec.held.holder (b - 1) ∙ rw (eq-true (holder_of d.rec b) u e)

-- A number that stream s is given: unit s holds it; stream 0 holds nothing.
pub hold-holder : (s b : ℕ) (d : Disk) → 1 ≤ b → b ≤ length d.rec.held.holder → holder_of d.rec b ≡ 0 → holder_of (hold s b d).rec b ≡ s
unfolding hold
hold-holder zero b d p q h = h
hold-holder (suc u) b d p q h = get_or-set_same d.rec.held.holder (b - 1) (suc u) 0 (omega arith)

pub hold-other : (s b x : ℕ) (d : Disk) → holder_of d.rec b ≡ 0 → holder_of d.rec x ≢ 0 → holder_of (hold s b d).rec x ≡ holder_of d.rec x
unfolding hold
hold-other zero b x d h n = refl
hold-other (suc u) b x d h n = get_or-set_other d.rec.held.holder (b - 1) (x - 1) (suc u) 0 (λ e. n (ap (λ (i : ℕ). get_or d.rec.held.holder i 0) e ∙ h))

pub hold-card : (s n : ℕ) (d : Disk) → (hold s n d).card ≡ d.card
unfolding hold
hold-card zero n d = refl
hold-card (suc u) n d = refl

-- What is noted of a change: a number given is held, and the order of the free ones is another.
freed-by : (P : Disk → Type 0) (s : ℕ) → ((fs : List ℕ) (d : Disk) → P d → P (relisted fs d)) → (ns : List ℕ) (d : Disk) → P d → P (freed s ns d)
unfolding freed
freed-by P zero l ns d p = l (listed_in d.rec ++ ns) d p
freed-by P (suc u) l ns d p = p

pub noted-by : (P : Disk → Type 0) (s : ℕ) → ((n : ℕ) (d : Disk) → P d → P (hold s n d)) → ((fs : List ℕ) (d : Disk) → P d → P (relisted fs d))
    → (c : Change Written) (rs : List (Row Written)) (d : Disk) → P d → P (noted s c rs d)
unfolding noted given
noted-by P s h l (take_list x) rs d p = let e = hold s (list_number x) d in l (keep (λ m. not (eqb m (list_number x))) (listed_in e.rec)) e (h (list_number x) d p)
noted-by P s h l (put_first x y) rs d p = let e = hold s x d in l (keep (λ m. not (eqb m x)) (listed_in e.rec)) e (h x d p)
noted-by P s h l (put_after x y z) rs d p = let e = hold s x d in l (keep (λ m. not (eqb m x)) (listed_in e.rec)) e (h x d p)
noted-by P s h l (write x y) rs d p = p
noted-by P s h l (del_block x) rs d p = freed-by P s l (frees (del_block x) rs) d p
noted-by P s h l (del_list x) rs d p = freed-by P s l (frees (del_list x) rs) d p

-- Numbers that a change brings into use, one by one and all.
pub brought-all : (p : ℕ → Bool) (ns : List ℕ) → ((n : ℕ) → any (λ m. eqb m n) ns ≡ true → p n ≡ true) → all p ns ≡ true
unfolding all
brought-all p [] h = refl
brought-all p (m ∷ ns) h = rw (h m (rw (eqb_same m))) (brought-all p ns (λ n e. h n (rw e (or-true (eqb m n)))))

all-brought : (p : ℕ → Bool) (ns : List ℕ) → all p ns ≡ true → (n : ℕ) → any (λ m. eqb m n) ns ≡ true → p n ≡ true
unfolding all
all-brought p [] h n e = absurd (false≢true e)
all-brought p (m ∷ ns) h n e = let (x, y) = and-true (p m) (all p ns) h in ⊎_elim (λ z. ap p (sym (eqb-true m n z)) ∙ x) (all-brought p ns y n) (or_cases (eqb m n) _ e)

-- A journal's change, sound for unit u: what it puts or takes is held by u.
pub journal-held : (r : Record) (u : ℕ) (c : Change Written) (b : ℕ) → journal_sound r u c ≡ true → brought c b ≡ true → holder_of r b ≡ u
unfolding journal_sound
journal-held r u c b h e =
    eqb-true (holder_of r b) u (all-brought (λ x. eqb (holder_of r x) u) (brings c) (and-true (legal (raw 0 (member c))) _ h).1 b e)

journal-more : (r t : Record) (u : ℕ) (c : Change Written) → ((b : ℕ) → holder_of r b ≡ u → holder_of t b ≡ u)
    → journal_sound r u c ≡ true → journal_sound t u c ≡ true
unfolding journal_sound
journal-more r t u c f h =
    let (a, b) = and-true (legal (raw 0 (member c))) (all (λ x. eqb (holder_of r x) u) (brings c)) h in
    rw a (all-each (λ x. eqb (holder_of r x) u) (λ x. eqb (holder_of t x) u) (brings c) (λ x e. eq-true (holder_of t x) u (f x (eqb-true (holder_of r x) u e))) b)

pub journals-more : (r t : Record) (u : ℕ) (cs : List (Change Written)) → ((b : ℕ) → holder_of r b ≡ u → holder_of t b ≡ u)
    → all (journal_sound r u) cs ≡ true → all (journal_sound t u) cs ≡ true
journals-more r t u cs f h = all-each (journal_sound r u) (journal_sound t u) cs (λ c. journal-more r t u c f) h

-- no change of unit u's journal brings a number into use that u does not hold
pub journals-apart : (r : Record) (u : ℕ) (cs : List (Change Written)) (b : ℕ) → holder_of r b ≢ u → all (journal_sound r u) cs ≡ true
    → any (λ c. brought c b) cs ≡ false
unfolding all
journals-apart r u [] b n h = refl
journals-apart r u (c ∷ cs) b n h =
    let (x, y) = and-true (journal_sound r u c) (all (journal_sound r u) cs) h in
    rw (go (brought c b) refl x) (journals-apart r u cs b n y)
  where
    go : (t : Bool) → brought c b ≡ t → journal_sound r u c ≡ true → brought c b ≡ false
    go true e x = absurd (n (journal-held r u c b x e))
    go false e x = e
