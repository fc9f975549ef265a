-- A journal's changes acting on the record's order of the free numbers, one by one: what is left of it leads from the state that the tables show, and
-- from the order as it is, to where the whole leads.
use mathlib.Core.Path.{◌≡◌, sym, ap, ◌∙◌, subst}
use mathlib.Core.Bool.{Bool, true}
use mathlib.Core.Option.{Option, some, some-injective}
use mathlib.Core.List.{List, [], ◌∷◌}
use Prim.Native.Nat.{ℕ, ◌+◌, ◌-◌, ◌≤◌, ◌<◌}
use native.Mathlib.Omega.{arith}
use Rattle.lists.specs.Change.{Change, map_change}
use Rattle.lists.specs.State.{State, changed, apply, apply_all}
use Rattle.lists.specs.promises.Tables.{Tables, ShowsAll, Represents, Did, SaysLastFree}
use Rattle.lists.proofs.Basic.{bind-some, from_step, from-none}
use Rattle.lists.proofs.Apply.{apply_some}
use Rattle.lists.proofs.Represents.{did-apply}
use Rattle.lists.proofs.FreeRow.{last-free-shown}
use Rattle.card_log.specs.Entry.{member, raw, legal, as_change}
use Rattle.card_log.specs.declared.entry.LogEntry.{LogEntry}
use Rattle.card_log.specs.promises.Location.{number_at}
use Rattle.disk.specs.Record.{Unit, Record}
use Rattle.disk.specs.promises.Listing.{Reorders, relisted_all, Relists}
use Rattle.inspect.specs.promises.Located.{change_here, journal_here}
use Rattle.inspect.specs.promises.Relisting.{RelistsChange, RelistsJournal}
use Rattle.inspect.proofs.Overlaying.{rest_of, member-change}

-- An entry, its write's bytes at location d, which is not 0; last was the last free number before it.
pub relists-change : (e : LogEntry) (d last : ℕ) (t : Tables) (r : Record) (b : Bool) (t' : Tables) (r' : Record) → 1 ≤ d → legal (raw 0 (member (as_change e))) ≡ true
    → SaysLastFree t last → Did (map_change (number_at d) (as_change e)) t b t' → Relists e last t' r r' → Reorders r r' → RelistsChange (map_change (number_at d) (as_change e)) t r r' t'
relists-change e d last t r b t' r' low lawful w did l k = record {
  shows = acted;
  order = λ s v h p. l (number_at d) s.lists _ s.free (subst (ShowsAll t') (apply_some change s v p).1 (acted s v h p)) (last-free-shown s.free h w);
  keeps = k;
}
  where
    change : Change ℕ
    change = map_change (number_at d) (as_change e)

    acted : (s v : State ℕ) → ShowsAll t s → apply change s ≡ some v → ShowsAll t' v
    acted s v h p = (subst (λ (o : Option (State ℕ)). Represents o b t') p (did-apply change t b t' s (member-change e d low lawful).1 h did)).1

-- the tables show a state, from which the changes from number k on lead to v, and from r' to where all of them lead from r
pub record Relisted (x : Unit) (u : ℕ) (s v : State ℕ) (r : Record) (k : ℕ) (t : Tables) (r' : Record) : Type 0 where
  pub now : State ℕ
  pub shows : ShowsAll t now
  pub leads : apply_all (rest_of x u k) now ≡ some v
  pub order : relisted_all (rest_of x u k) now.lists r' ≡ relisted_all (journal_here x u) s.lists r

-- if all of them apply in the state that the tables t showed at first
abbrev pub RelistedUpTo : Tables → Unit → ℕ → Record → ℕ → Tables → Record → Type 0
RelistedUpTo t x u r k t' r' = (s v : State ℕ) → ShowsAll t s → apply_all (journal_here x u) s ≡ some v → Relisted x u s v r k t' r'

module _ (t : Tables) (x : Unit) (u : ℕ) (r : Record) where
  pub relisted-none : RelistedUpTo t x u r 0 t r
  unfolding journal_here
  relisted-none s v h p = let e : x.len - 0 ≡ x.len = omega arith in record { now = s; shows = h; leads = rw e p; order = rw e }

  module _ (k : ℕ) (t' : Tables) (r' : Record) (f : RelistedUpTo t x u r k t' r') where
    pub relisted-turn : (c : Change ℕ) (t'' : Tables) (r'' : Record) → k < x.len → c ≡ change_here x u k → RelistsChange c t' r' r'' t'' → RelistedUpTo t x u r (k + 1) t'' r''
    unfolding apply_all relisted_all
    relisted-turn c t'' r'' l e d s v h p =
        let y = f s v h p in
        let cs = rest_of x u (k + 1) in
        let q : rest_of x u k ≡ c ∷ cs = from_step (change_here x u) k x.len l ∙ ap (λ (a : Change ℕ). a ∷ cs) (sym e) in
        let (w, a, b) = bind-some (apply c y.now) (λ z. apply_all cs z) v (ap (λ (zs : List (Change ℕ)). apply_all zs y.now) (sym q) ∙ y.leads) in
        record {
          now = w;
          shows = d.shows y.now w y.shows a;
          leads = b;
          order = ap (λ (z : State ℕ). relisted_all cs z.lists r'') (apply_some c y.now w a).1
              ∙ ap (relisted_all cs (changed c y.now.lists)) (d.order y.now w y.shows a)
              ∙ ap (λ (zs : List (Change ℕ)). relisted_all zs y.now.lists r') (sym q)
              ∙ y.order;
        }

    pub relisted-end : x.len ≤ k → Reorders r r' → RelistsJournal t x u r r' t'
    unfolding apply_all relisted_all
    relisted-end l g =
        let q : rest_of x u k ≡ [] = from-none (change_here x u) k x.len l in
        record {
          shows = λ s v h p.
              let y = f s v h p in
              subst (ShowsAll t') (some-injective _ _ (ap (λ (zs : List (Change ℕ)). apply_all zs y.now) (sym q) ∙ y.leads)) y.shows;
          order = λ s v h p. let y = f s v h p in ap (λ (zs : List (Change ℕ)). relisted_all zs y.now.lists r') (sym q) ∙ y.order;
          keeps = g;
        }
