-- The list's first block stands behind the last free node, and the list's node leads to the one behind it. Assumes nothing.
use mathlib.Core.Path.{◌≡◌, sym, ap, ◌∙◌, subst}
use Prim.Native.Nat.{ℕ, ◌+◌, ◌<◌}
use native.Mathlib.Omega.{arith}
use lib.ListN.{length}
use Rattle.lists.specs.promises.Tables.{Tables, next_of, with_owner, link_nodes, drop_first, IsFirst, Drops}
use Rattle.lists.proofs.Bytes.{next-length}
use Rattle.lists.proofs.Dropping.{drop-next}
use Rattle.lists.proofs.Lookup.{node_of}
use Rattle.lists.proofs.Represents.{step-shown}
use Rattle.lists.proofs.tables.drop_first.Goals as goal

module _ (t u : Tables) (n b z y : ℕ) (f : IsFirst n b t) where
  stepped : u ≡ with_owner b 0 (link_nodes n y (link_nodes b 255 (link_nodes z b t))) → y ≡ next_of t b → u ≡ drop_first n z t
  unfolding drop_first
  stepped e q = rw (e, q, f.follows)

  made : n < length t.next → u ≡ with_owner b 0 (link_nodes n y (link_nodes b 255 (link_nodes z b t))) → y ≡ next_of t b → Drops n z t y u
  made h e q = record {
    answer = q ∙ ap (next_of t) (sym f.follows) ∙ sym (ap (λ (x : Tables). next_of x n) (stepped e q) ∙ drop-next n 0 z t h);
    left = stepped e q;
    shows = λ l g k w rs fs s.
        let j : n ≡ 64 + l = k ∙ node_of l g.1 in
        let (few, shown, last) = step-shown t rs s l g b (subst (λ (m : ℕ). IsFirst m b t) j f) in
        rw (stepped e q, w) (rw j (shown, rw (← j) f.follows ∙ last));
  }

pub returns : goal.returns
returns c =
    let a = c.args in
    made _ _ a.n a.first a.last _ c.requires (rw (next-length a.nodes.now) (omega (arith, c.ranges.n)))
    (c.set_owner.ensures
    ∙ ap (λ (x : Tables). with_owner a.first 0 x)
    (c.link-3.ensures
    ∙ ap (λ (x : Tables). link_nodes a.n c.next_of-second.result x)
    (c.link-2.ensures ∙ ap (λ (x : Tables). link_nodes a.first 255 x) c.link.ensures)))
    c.next_of-second.ensures
