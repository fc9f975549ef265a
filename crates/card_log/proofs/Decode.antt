-- The decoder gives back what the encoder wrote, whatever follows, and takes nothing else.
use mathlib.Core.Path.{◌≡◌, refl, sym, ap, ◌∙◌, subst}
use mathlib.Core.Logic.{◌⊎◌, inl, inr}
use mathlib.Core.Bool.{Bool, true, false, cond}
use mathlib.Core.Option.{Option, none, some, none-ne-some, some-injective}
use mathlib.Core.List.{List, [], ◌∷◌, ◌++◌}
use Prim.Native.Nat.{ℕ, zero, suc, ◌+◌, ◌-◌, ◌≤◌, ◌<◌}
use native.Mathlib.Omega.{arith}
use lib.Dec.{leb, eqb}
use lib.Seq.{take-suc}
use lib.ListN.{length, take, drop, get_or, take-append-drop}
use Rattle.lists.specs.Basic.{bind}
use Rattle.lists.specs.Change.{Change, take_list, put_first, put_after, write, del_block, del_list}
use Rattle.lists.proofs.Basic.{le-true, leb-true, eqb-true, bind-some, guard-some}
use Rattle.card_log.specs.Raced.{Raced, raced}
use Rattle.card_log.specs.Entry.{Entry, plain, member, commit, race_bit, race_byte, change_bytes, encode, legal, size_of, change_of, checked, entry_of, decode}

decode-write : (b x n : ℕ) (r : List ℕ) → legal (plain (write b (raced x n))) ≡ true → decode (change_bytes 0 (write b (raced x n)) ++ r) ≡ some (plain (write b (raced x n)), r)
unfolding decode change_bytes race_bit race_byte change_of checked entry_of
decode-write b x zero r h = rw (le-true 3 (suc (suc (suc (length r)))) (omega arith), h)
decode-write b x (suc n) r h = rw (le-true 4 (suc (suc (suc (suc (length r))))) (omega arith), le-true 1 (suc n) (omega arith), h)

decode-member : (b x n : ℕ) (r : List ℕ) → legal (member (write b (raced x n))) ≡ true → decode (change_bytes 128 (write b (raced x n)) ++ r) ≡ some (member (write b (raced x n)), r)
unfolding decode change_bytes race_bit race_byte change_of checked entry_of
decode-member b x zero r h = rw (le-true 3 (suc (suc (suc (length r)))) (omega arith), h)
decode-member b x (suc n) r h = rw (le-true 4 (suc (suc (suc (suc (length r))))) (omega arith), le-true 1 (suc n) (omega arith), h)

pub decode-encode : (e : Entry (Raced ℕ)) (r : List ℕ) → legal e ≡ true → decode (encode e ++ r) ≡ some (e, r)
unfolding decode encode change_bytes change_of checked entry_of
decode-encode (plain (take_list l)) r h = rw (le-true 2 (suc (suc (length r))) (omega arith), h)
decode-encode (plain (put_first b l)) r h = rw (le-true 3 (suc (suc (suc (length r)))) (omega arith), h)
decode-encode (plain (put_after b l p)) r h = rw (le-true 4 (suc (suc (suc (suc (length r))))) (omega arith), h)
decode-encode (plain (write b s)) r h = decode-write b s.body s.race r h
decode-encode (plain (del_block b)) r h = rw (le-true 2 (suc (suc (length r))) (omega arith), h)
decode-encode (plain (del_list l)) r h = rw (le-true 2 (suc (suc (length r))) (omega arith), h)
decode-encode (member (take_list l)) r h = rw (le-true 2 (suc (suc (length r))) (omega arith), h)
decode-encode (member (put_first b l)) r h = rw (le-true 3 (suc (suc (suc (length r)))) (omega arith), h)
decode-encode (member (put_after b l p)) r h = rw (le-true 4 (suc (suc (suc (suc (length r))))) (omega arith), h)
decode-encode (member (write b s)) r h = decode-member b s.body s.race r h
decode-encode (member (del_block b)) r h = rw (le-true 2 (suc (suc (length r))) (omega arith), h)
decode-encode (member (del_list l)) r h = rw (le-true 2 (suc (suc (length r))) (omega arith), h)
decode-encode (commit n) r h = rw (le-true 2 (suc (suc (length r))) (omega arith), h)

-- A map that is one of seven says its change.
pub cond-some : {A : Type 0} (m k : ℕ) (x y : Option A) (a : A) → cond (eqb m k) x y ≡ some a → ((m ≡ k) × (x ≡ some a)) ⊎ (y ≡ some a)
cond-some m k x y a h = go (eqb m k) refl h
  where
    go : (b : Bool) → eqb m k ≡ b → cond b x y ≡ some a → ((m ≡ k) × (x ≡ some a)) ⊎ (y ≡ some a)
    go true e q = inl (eqb-true m k e, q)
    go false e q = inr q

module _ (P : ℕ → Change (Raced ℕ) → Type 0) (m : ℕ) (c : Change (Raced ℕ)) where
  told : (k : ℕ) (d : Change (Raced ℕ)) → P k d → some d ≡ some c → P k c
  told k d p q = subst (λ (e : Change (Raced ℕ)). P k e) (some-injective _ _ q) p

  -- one map of the chain
  here-or : (k : ℕ) (o rest : Option (Change (Raced ℕ))) → (o ≡ some c → P k c) → (rest ≡ some c → P m c) → cond (eqb m k) o rest ≡ some c → P m c
  here-or k o rest p f h = go (cond-some m k o rest c h)
    where
      go : ((m ≡ k) × (o ≡ some c)) ⊎ (rest ≡ some c) → P m c
      go (inl q) = subst (λ (n : ℕ). P n c) (sym q.0) (p q.1)
      go (inr q) = f q

  change-cases : (x y z : ℕ) → P 2 (take_list x) → P 3 (put_first x y) → P 7 (put_after x y z) → P 9 (write x (raced y 0)) → (leb 1 z ≡ true → P 73 (write x (raced y z)))
      → P 33 (del_block x) → P 34 (del_list x) → change_of m x y z ≡ some c → P m c
  unfolding change_of
  change-cases x y z a b d e w f g =
      here-or 2 _ _ (told 2 (take_list x) a) (here-or 3 _ _ (told 3 (put_first x y) b) (here-or 7 _ _ (told 7 (put_after x y z) d) (here-or 9 _ _ (told 9 (write x (raced y 0)) e)
      (here-or 73 _ _ (λ q. let (l, s) = guard-some (leb 1 z) (some (write x (raced y z))) c q in told 73 (write x (raced y z)) (w l) s)
      (here-or 33 _ _ (told 33 (del_block x) f) (here-or 34 _ none (told 34 (del_list x) g) (λ q. absurd (none-ne-some _ q))))))))

-- The entry that a map and three bytes say is coded by the map and as many of them as its size tells.
abbrev Coded : ℕ → ℕ → ℕ → ℕ → List ℕ → Type 0
Coded m x y z v = (v ≡ take (size_of m) (m ∷ x ∷ y ∷ z ∷ [])) × (size_of m ≤ 4)

abbrev BothCoded : ℕ → ℕ → ℕ → ℕ → Change (Raced ℕ) → Type 0
BothCoded m x y z c = Coded m x y z (change_bytes 0 c) × Coded (128 + m) x y z (change_bytes 128 c)

raced-coded : (x y z : ℕ) → leb 1 z ≡ true → BothCoded 73 x y z (write x (raced y z))
unfolding change_bytes race_bit race_byte
raced-coded x y zero h = absurd (omega (arith, leb-true 1 0 h))
raced-coded x y (suc n) h = ((refl, omega arith), (refl, omega arith))

change-coded : (m x y z : ℕ) (c : Change (Raced ℕ)) → change_of m x y z ≡ some c → BothCoded m x y z c
unfolding change_bytes race_bit race_byte
change-coded m x y z c h =
    change-cases (λ n d. BothCoded n x y z d) m c x y z
    ((refl, omega arith), (refl, omega arith)) ((refl, omega arith), (refl, omega arith)) ((refl, omega arith), (refl, omega arith)) ((refl, omega arith), (refl, omega arith))
    (raced-coded x y z) ((refl, omega arith), (refl, omega arith)) ((refl, omega arith), (refl, omega arith)) h

checked-some : (d e : Entry (Raced ℕ)) → checked d ≡ some e → (d ≡ e) × (legal e ≡ true)
unfolding checked
checked-some d e h =
    let (l, s) = guard-some (legal d) (some d) e h in
    let q : d ≡ e = some-injective _ _ s in
    (q, ap legal (sym q) ∙ l)

entry-coded : (m x y z : ℕ) (e : Entry (Raced ℕ)) → entry_of m x y z ≡ some e → Coded m x y z (encode e) × (legal e ≡ true)
unfolding entry_of encode
entry-coded m x y z e h = first (cond-some m 16 (checked (commit x)) _ e h)
  where
    G : Type 0
    G = Coded m x y z (encode e) × (legal e ≡ true)

    side : (b : Bool) → leb 128 m ≡ b → cond b (bind (change_of (m - 128) x y z) (λ c. checked (member c))) (bind (change_of m x y z) (λ c. checked (plain c))) ≡ some e → G
    side true l q =
        let (c, u, v) = bind-some (change_of (m - 128) x y z) (λ c. checked (member c)) e q in
        let (w, g) = checked-some (member c) e v in
        let o : 128 + (m - 128) ≡ m = omega (arith, leb-true 128 m l) in
        (subst (λ (n : ℕ). Coded n x y z (encode e)) o (subst (λ (d : Entry (Raced ℕ)). Coded (128 + (m - 128)) x y z (encode d)) w (change-coded (m - 128) x y z c u).1), g)
    side false l q =
        let (c, u, v) = bind-some (change_of m x y z) (λ c. checked (plain c)) e q in
        let (w, g) = checked-some (plain c) e v in
        (subst (λ (d : Entry (Raced ℕ)). Coded m x y z (encode d)) w (change-coded m x y z c u).0, g)

    first : ((m ≡ 16) × (checked (commit x) ≡ some e)) ⊎ (cond (leb 128 m) (bind (change_of (m - 128) x y z) (λ c. checked (member c))) (bind (change_of m x y z) (λ c. checked (plain c))) ≡ some e) → G
    first (inl (p, q)) =
        let (w, g) = checked-some (commit x) e q in
        (subst (λ (n : ℕ). Coded n x y z (encode e)) (sym p) (subst (λ (d : Entry (Raced ℕ)). Coded 16 x y z (encode d)) w (refl, omega arith)), g)
    first (inr q) = side (leb 128 m) refl q

abbrev four : List ℕ → List ℕ
four bs = get_or bs 0 0 ∷ get_or bs 1 0 ∷ get_or bs 2 0 ∷ get_or bs 3 0 ∷ []

get_or-four : (n : ℕ) (bs : List ℕ) → n < 4 → get_or bs n 0 ≡ get_or (four bs) n 0
get_or-four zero bs h = refl
get_or-four (suc zero) bs h = refl
get_or-four (suc (suc zero)) bs h = refl
get_or-four (suc (suc (suc zero))) bs h = refl
get_or-four (suc (suc (suc (suc n)))) bs h = absurd (omega arith)

take-four : (n : ℕ) (bs : List ℕ) → n ≤ 4 → n ≤ length bs → take n bs ≡ take n (four bs)
take-four zero bs h l = refl
take-four (suc n) bs h l =
    take-suc bs n 0 (omega arith)
    ∙ ap (λ (r : List ℕ). r ++ get_or bs n 0 ∷ []) (take-four n bs (omega arith) (omega arith))
    ∙ ap (λ (b : ℕ). take n (four bs) ++ b ∷ []) (get_or-four n bs (omega arith))
    ∙ sym (take-suc (four bs) n 0 (omega arith))

pub decode-complete : (bs : List ℕ) (z : Entry (Raced ℕ) × List ℕ) → decode bs ≡ some z → (bs ≡ encode z.0 ++ z.1) × (legal z.0 ≡ true)
unfolding decode
decode-complete bs z h =
    let m = get_or bs 0 0 in
    let (l, q) = guard-some (leb (size_of m) (length bs)) _ z h in
    let (e, u, v) = bind-some (entry_of m (get_or bs 1 0) (get_or bs 2 0) (get_or bs 3 0)) (λ e. some (e, drop (size_of m) bs)) z q in
    let ((w, b), g) = entry-coded m (get_or bs 1 0) (get_or bs 2 0) (get_or bs 3 0) e u in
    let o : (e, drop (size_of m) bs) ≡ z = some-injective _ _ v in
    let n : take (size_of m) bs ≡ encode e = take-four (size_of m) bs b (leb-true (size_of m) (length bs) l) ∙ sym w in (
      sym (take-append-drop (size_of m) bs) ∙ ap (λ (r : List ℕ). r ++ drop (size_of m) bs) n ∙ ap (λ (y : Entry (Raced ℕ) × List ℕ). encode y.0 ++ y.1) o,
      ap (λ (y : Entry (Raced ℕ) × List ℕ). legal y.0) (sym o) ∙ g,
    )
