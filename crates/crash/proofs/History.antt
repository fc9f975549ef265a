-- The log read as a serial history: what its entries tell, how their closing stores are numbered, and that the longest prefix whose closing
-- stores are on the card is the history that the card's entries tell (`on-card`).
use mathlib.Core.Path.{◌≡◌, refl, sym, ap, ◌∙◌}
use mathlib.Core.Bool.{Bool, true, false, ◌||◌}
use mathlib.Core.Option.{Option, none, some, none-ne-some}
use mathlib.Core.List.{List, [], ◌∷◌, ◌++◌, map, append_assoc, append-nil}
use Prim.Native.Nat.{ℕ, zero, suc, ◌+◌, ◌-◌, ◌≤◌, ◌<◌}
use native.Mathlib.Omega.{arith}
use native.Mathlib.Nat.{add-zero}
use lib.Dec.{leb, eqb}
use lib.ListN.{length, take, length-append}
use lib.Seq.{drop_at}
use Rattle.lists.specs.Basic.{bind, guard, any, joined}
use Rattle.lists.specs.Change.{Change}
use Rattle.lists.specs.State.{State, apply, apply_all}
use Rattle.lists.proofs.Basic.{eqb-false, eqb-neq, any-joined}
use Rattle.lists.proofs.Listed.{apply_all-append}
use Rattle.card_log.specs.Entry.{Entry, plain, member, commit}
use Rattle.card_log.specs.Reader.{Reader, reader, settled, last_of, read, replay}
use Rattle.card_log.specs.Card.{Written}
use Rattle.crash.specs.Book.{Act, Waiting, longest, closing_on_card, is_number, member_of, entries_of}

-- the serial history that entries tell to a reader with a run behind it
unfoldable pub tell : List (Change Written) → List (Entry Written) → List Act
tell run [] = []
tell run (plain c ∷ es) = (c ∷ []) ∷ tell [] es
tell run (member c ∷ es) = tell (run ++ c ∷ []) es
tell run (commit n ∷ es) = last_of n run ∷ tell [] es

-- the run that they leave
unfoldable pub run_after : List (Change Written) → List (Entry Written) → List (Change Written)
run_after run [] = run
run_after run (plain c ∷ es) = run_after [] es
run_after run (member c ∷ es) = run_after (run ++ c ∷ []) es
run_after run (commit n ∷ es) = run_after [] es

pub tell-append : (run : List (Change Written)) (xs ys : List (Entry Written)) → tell run (xs ++ ys) ≡ tell run xs ++ tell (run_after run xs) ys
unfolding tell run_after
tell-append run [] ys = refl
tell-append run (plain c ∷ xs) ys = ap (λ (l : List Act). (c ∷ []) ∷ l) (tell-append [] xs ys)
tell-append run (member c ∷ xs) ys = tell-append (run ++ c ∷ []) xs ys
tell-append run (commit n ∷ xs) ys = ap (λ (l : List Act). last_of n run ∷ l) (tell-append [] xs ys)

-- A replay that succeeds gives the state of the history that it tells.
through : (o : Option (State Written)) (f : Reader Written → Option (Reader Written)) (g : State Written → Option (State Written)) (z : Reader Written)
    → ((t : State Written) → f (settled t) ≡ some z → g t ≡ some z.state) → bind (bind o (λ s. some (settled s))) f ≡ some z → bind o g ≡ some z.state
through none f g z k h = absurd (none-ne-some _ h)
through (some t) f g z k h = k t h

unguarded : (b : Bool) (o : Option (Reader Written)) (f : Reader Written → Option (Reader Written)) (z : Reader Written)
    → bind (guard b o) f ≡ some z → bind o f ≡ some z
unguarded true o f z h = h
unguarded false o f z h = absurd (none-ne-some _ h)

pub replay-acts : (es : List (Entry Written)) (r z : Reader Written) → replay r es ≡ some z → apply_all (joined (tell r.run es)) r.state ≡ some z.state
unfolding replay tell joined apply_all read
replay-acts [] r z h = ap {B = Option (State Written)} (λ o. bind o (λ (q : Reader Written). some q.state)) h
replay-acts (plain c ∷ es) r z h =
    through (apply c r.state) (λ q. replay q es) (λ t. apply_all (joined (tell [] es)) t) z (λ t. replay-acts es (settled t) z) h
replay-acts (member c ∷ es) r z h = replay-acts es (reader (r.run ++ c ∷ []) r.state) z h
replay-acts (commit n ∷ es) r z h =
    apply_all-append (last_of n r.run) (joined (tell [] es)) r.state
    ∙ through (apply_all (last_of n r.run) r.state) (λ q. replay q es) (λ t. apply_all (joined (tell [] es)) t) z (λ t. replay-acts es (settled t) z)
    (unguarded (leb n (length r.run)) (bind (apply_all (last_of n r.run) r.state) (λ s. some (settled s))) (λ q. replay q es) z h)

-- A unit's members and its commit tell the unit whole, whatever dead run stands before.
last_of-append : (xs ys : List (Change Written)) → last_of (length ys) (xs ++ ys) ≡ ys
unfolding last_of
last_of-append xs ys = drop_at xs ys (length (xs ++ ys) - length ys) (omega (arith, length-append xs ys))

tell-members : (n : ℕ) (ds run : List (Change Written)) → tell run (map member ds ++ commit n ∷ []) ≡ last_of n (run ++ ds) ∷ []
unfolding tell
tell-members n [] run = simp append-nil
tell-members n (d ∷ ds) run = tell-members n ds (run ++ d ∷ []) ∙ ap (λ (l : List (Change Written)). last_of n l ∷ []) (append_assoc run (d ∷ []) ds)

pub tell-unit : (cs run : List (Change Written)) → tell run (map member cs ++ commit (length cs) ∷ []) ≡ cs ∷ []
tell-unit cs run = tell-members (length cs) cs run ∙ ap (λ (l : List (Change Written)). l ∷ []) (last_of-append run cs)

pub tell-plain : (run : List (Change Written)) (c : Change Written) → tell run (plain c ∷ []) ≡ (c ∷ []) ∷ []
unfolding tell
tell-plain run c = refl

-- an entry that closes number i
abbrev pub closing : Entry Written → ℕ → Waiting
closing e i = record { entry = e; closes = some i }

-- entries with the numbers of what they close, counted from i
unfoldable pub label : ℕ → List (Entry Written) → List Waiting
label i [] = []
label i (plain c ∷ es) = closing (plain c) i ∷ label (suc i) es
label i (member c ∷ es) = member_of c ∷ label i es
label i (commit n ∷ es) = closing (commit n) i ∷ label (suc i) es

pub label-append : (i : ℕ) (run : List (Change Written)) (xs ys : List (Entry Written)) → label i (xs ++ ys) ≡ label i xs ++ label (i + length (tell run xs)) ys
unfolding label tell
label-append i run [] ys = ap (λ (n : ℕ). label n ys) (sym (add-zero i))
label-append i run (plain c ∷ xs) ys =
    ap (λ (l : List Waiting). closing (plain c) i ∷ l) (label-append (suc i) [] xs ys ∙ ap (λ (n : ℕ). label (suc i) xs ++ label n ys) (omega arith))
label-append i run (member c ∷ xs) ys = ap (λ (l : List Waiting). member_of c ∷ l) (label-append i (run ++ c ∷ []) xs ys)
label-append i run (commit n ∷ xs) ys =
    ap (λ (l : List Waiting). closing (commit n) i ∷ l) (label-append (suc i) [] xs ys ∙ ap (λ (n : ℕ). label (suc i) xs ++ label n ys) (omega arith))

pub label-take : (i n : ℕ) (es : List (Entry Written)) → label i (take n es) ≡ take n (label i es)
unfolding label
label-take i zero es = refl
label-take i (suc n) [] = refl
label-take i (suc n) (plain c ∷ es) = ap (λ (l : List Waiting). closing (plain c) i ∷ l) (label-take (suc i) n es)
label-take i (suc n) (member c ∷ es) = ap (λ (l : List Waiting). member_of c ∷ l) (label-take i n es)
label-take i (suc n) (commit m ∷ es) = ap (λ (l : List Waiting). closing (commit m) i ∷ l) (label-take (suc i) n es)

pub label-plain : (n : ℕ) (c : Change Written) → label n (plain c ∷ []) ≡ closing (plain c) n ∷ []
unfolding label
label-plain n c = refl

pub label-unit : (n m : ℕ) (cs : List (Change Written)) → label n (map member cs ++ commit m ∷ []) ≡ map member_of cs ++ closing (commit m) n ∷ []
unfolding label
label-unit n m [] = refl
label-unit n m (c ∷ cs) = ap (λ (x : List Waiting). member_of c ∷ x) (label-unit n m cs)

pub entries-label : (i : ℕ) (es : List (Entry Written)) → entries_of (label i es) ≡ es
unfolding label entries_of member_of
entries-label i [] = refl
entries-label i (plain c ∷ es) = ap (λ (l : List (Entry Written)). plain c ∷ l) (entries-label (suc i) es)
entries-label i (member c ∷ es) = ap (λ (l : List (Entry Written)). member c ∷ l) (entries-label i es)
entries-label i (commit m ∷ es) = ap (λ (l : List (Entry Written)). commit m ∷ l) (entries-label (suc i) es)

-- Which numbers a labelled list closes: those from i on, as many as its history is long.
here-or-later : (n i : ℕ) (b : Bool) → i ≤ n → (suc i ≤ n → b ≡ true) → eqb n i || b ≡ true
here-or-later n i b h k = go (eqb n i) refl
  where
    go : (c : Bool) → eqb n i ≡ c → c || b ≡ true
    go true e = refl
    go false e = k (omega (arith, eqb-neq n i e))

closes-within : (n i : ℕ) (run : List (Change Written)) (es : List (Entry Written)) → i ≤ n → n < i + length (tell run es)
    → any (λ (w : Waiting). is_number n w.closes) (label i es) ≡ true
unfolding label is_number member_of tell
closes-within n i run [] h k = absurd (omega arith)
closes-within n i run (plain c ∷ es) h k = here-or-later n i _ h (λ l. closes-within n (suc i) [] es l (omega arith))
closes-within n i run (member c ∷ es) h k = closes-within n i (run ++ c ∷ []) es h k
closes-within n i run (commit m ∷ es) h k = here-or-later n i _ h (λ l. closes-within n (suc i) [] es l (omega arith))

closes-above : (n i : ℕ) (run : List (Change Written)) (es : List (Entry Written)) → i + length (tell run es) ≤ n
    → any (λ (w : Waiting). is_number n w.closes) (label i es) ≡ false
unfolding label is_number member_of tell
closes-above n i run [] h = refl
closes-above n i run (plain c ∷ es) h = rw (eqb-false n i (λ e. omega arith)) (closes-above n (suc i) [] es (omega arith))
closes-above n i run (member c ∷ es) h = closes-above n i (run ++ c ∷ []) es h
closes-above n i run (commit m ∷ es) h = rw (eqb-false n i (λ e. omega arith)) (closes-above n (suc i) [] es (omega arith))

longest-prefix : (p : ℕ → Bool) (i : ℕ) (xs ys : List Act) → ((j : ℕ) → i ≤ j → j < i + length xs → p j ≡ true)
    → ((j : ℕ) → i + length xs ≤ j → p j ≡ false) → longest p i (xs ++ ys) ≡ xs
unfolding longest
longest-prefix p i [] [] h k = refl
longest-prefix p i [] (y ∷ ys) h k = rw (k i (omega arith))
longest-prefix p i (x ∷ xs) ys h k =
    rw (h i (omega arith) (omega arith))
    (ap (λ (l : List Act). x ∷ l) (longest-prefix p (suc i) xs ys (λ j a b. h j (omega arith) (omega arith)) (λ j a. k j (omega arith))))

-- the longest prefix whose closing stores are on the card is the history that the placed entries tell
pub on-card : (ss : List (List Waiting)) (es : List (Entry Written)) (more : List Act) → joined ss ≡ label 0 es
    → longest (closing_on_card ss) 0 (tell [] es ++ more) ≡ tell [] es
unfolding closing_on_card
on-card ss es more h =
    longest-prefix (closing_on_card ss) 0 (tell [] es) more
    (λ j a b. any-joined (λ (w : Waiting). is_number j w.closes) ss ∙ rw h (closes-within j 0 [] es a b))
    (λ j a. any-joined (λ (w : Waiting). is_number j w.closes) ss ∙ rw h (closes-above j 0 [] es a))
