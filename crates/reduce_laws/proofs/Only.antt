-- The reducer's contracts settle the whole answer: two states that meet them are equal, and so are two quotients. Assumes nothing.
use Prim.Native.Nat.{ℕ, ◌*◌, ◌/◌, ◌%◌}
use mathlib.Core.Path.{◌≡◌, sym, ap, ◌∙◌, subst}
use native.Mathlib.Omega.{arith}
use Rattle.algebra.proofs.Products.{times}
use Rattle.reduce_laws.specs.Reducer.{half, Holds, held_of, Stepped}

pub holds_only : {w n x m r t m' r' t' : ℕ} → Holds w n x m r t → Holds w n x m' r' t' → (m ≡ m') × (r ≡ r') × (t ≡ t')
holds_only {w} {n} {x} a b =
    let e = a.twice ∙ sym b.twice in
    (e, a.rest ∙ ap (λ i. half w % i) e ∙ sym b.rest, a.product ∙ ap (λ i. 2 * x * (half w / i)) e ∙ sym b.product)

pub stepped_only : {w k m r t a m' r' t' b m'' r'' t'' : ℕ} → Stepped w k m r t a m' r' t' → Stepped w k m r t b m'' r'' t'' → (a ≡ b) × (m' ≡ m'') × (r' ≡ r'') × (t' ≡ t'')
stepped_only {w} {k} {m} {r} {t} {a} {m'} {r'} {t'} {b} {m''} {r''} {t''} p q =
    let e : a ≡ b = p.quotient ∙ sym q.quotient in
    let h : held_of w m' t' ≡ held_of w m'' t'' = omega (arith, p.parts, q.parts, times (m / 2) e) in
    let (i, j, l) = holds_only (subst (λ y. Holds w (m / 2) y m' r' t') h p.holds) q.holds in
    (e, i, j, l)
