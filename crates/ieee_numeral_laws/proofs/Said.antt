-- What is read of a text without a sign is what it says, part by part of the grammar. Assumes nothing.
use Prim.Native.Nat.{ℕ, ◌+◌, ◌*◌, ◌^◌, ◌≤◌}
use mathlib.Core.Path.{◌≡◌, refl, sym, ap, ◌∙◌, subst, subst₂, subst₃}
use mathlib.Core.Bool.{Bool, true, false, ◌&&◌, cond, false≢true, and-eq-true_iff}
use mathlib.Core.List.{List, [], ◌∷◌, ◌++◌, append_assoc, append-nil}
use native.Mathlib.Omega.{arith}
use lib.Dec.{leb, eqb}
use lib.ListN.{length}
use lib.IntN.{ℤ, pos, neg_ℤ}
use borrow.Author.Tests.{eq-eqb, ne_eqb, leb-true, eqb-true}
use Rattle.ieee.proofs.Decide.{split, eqb_reads}
use Rattle.ieee_numeral_laws.specs.Numeral.{Numeral, number, Significand, whole, pointed, Few, Exponent, raised, lowered, Unsigned, constant, plus, dash, point, letter_p, prefix}
use Rattle.std.specs.Prelude.{Option, Some, None}
use Rattle.ieee_numeral_laws.specs.Reading.{Run, run, at_end, few_by, few_of, exponent_of, with_exponent, end_by, point_by, unsigned_of}
use Rattle.ieee_numeral_laws.proofs.Digits.{parts, Taken, run_taken}

-- ---- a test before something has passed
pub nothing_said : {A : Type 0} {x : A} {G : Type 0} → None ≡ Some x → G
nothing_said h = let never : ◌≡◌ {A = ℕ} 0 1 = cc in absurd (omega arith)

passed : {A : Type 0} {x : Option A} {y : A} (b : Bool) → cond b x None ≡ Some y → (b ≡ true) × (x ≡ Some y)
passed true h = (refl, h)
passed false h = nothing_said h

ended : (s : List ℕ) → at_end s ≡ true → s ≡ []
ended [] h = refl
ended (c ∷ s) h = absurd (false≢true h)

-- ---- the exponent
record FewSaid (sign : ℕ → ℤ) (s : List ℕ) (e : ℤ) : Type 0 where
  n : ℕ
  few : Few s n
  is : sign n ≡ e

counted : (n limit : ℕ) (end : Bool) → leb 1 n && leb n limit && end ≡ true → (1 ≤ n) × (n ≤ limit) × (end ≡ true)
counted n limit end h =
    let (count, ends) = (and-eq-true_iff (leb 1 n && leb n limit) end).0 h in
    let (some, most) = (and-eq-true_iff (leb 1 n) (leb n limit)).0 count in
    (leb-true 1 n some, leb-true n limit most, ends)

few_said : (sign : ℕ → ℤ) (s : List ℕ) (e : ℤ) → few_of sign s ≡ Some e → FewSaid sign s e
unfolding few_of few_by
few_said sign s e h =
    let r : Run = run 10 0 0 s in
    let t : Taken 10 0 0 s r = run_taken 10 0 0 s in
    let (tests, is) = passed (leb 1 r.count && leb r.count 5 && at_end r.rest) h in
    let (some, most, end) = counted r.count 5 (at_end r.rest) tests in
    let all : s ≡ t.digits = t.text ∙ ap (λ l. t.digits ++ l) (ended r.rest end) ∙ append-nil t.digits in
    let spelt : t.spells ≡ r.spelt = omega (arith, t.spelt) in
    let few : Few t.digits t.spells = record { digits = t.are_digits; some = omega (arith, t.count); most = omega (arith, t.count) } in
    record { n = t.spells; few = subst (λ l. Few l t.spells) (sym all) few; is = ap sign spelt ∙ cc is }

exponent_said : (s : List ℕ) (e : ℤ) → exponent_of s ≡ Some e → Exponent s e
unfolding exponent_of
exponent_said [] e h = nothing_said h
exponent_said (c ∷ s) e h =
    split (eqb_reads c plus)
    (λ p. let f = few_said pos s e (rw (eq-eqb c plus p) at h) in subst₂ (λ b x. Exponent (b ∷ s) x) (sym p) f.is (raised f.few))
    (λ p. split (eqb_reads c dash)
    (λ q. let f = few_said (λ n. neg_ℤ (pos n)) s e (rw (ne_eqb c plus p, eq-eqb c dash q) at h) in subst₂ (λ b x. Exponent (b ∷ s) x) (sym q) f.is (lowered f.few))
    (λ q. let f = few_said pos (c ∷ s) e (rw (ne_eqb c plus p, ne_eqb c dash q) at h) in subst (Exponent (c ∷ s)) f.is (Exponent.bare f.few)))

-- ---- the end of a number: `p` and the exponent, after n digits that spell d, k of them behind the point
record EndSaid (neg : Bool) (d n k : ℕ) (s : List ℕ) (m : Numeral) : Type 0 where
  tail : List ℕ
  e : ℤ
  text : s ≡ letter_p ∷ tail
  some : 1 ≤ n
  exponent : Exponent tail e
  is : number neg d k e ≡ m

with_said : (neg : Bool) (d k : ℕ) (p : Option ℤ) (m : Numeral) → with_exponent neg d k p ≡ Some m → (e : ℤ) × (p ≡ Some e) × (number neg d k e ≡ m)
with_said neg d k (Some e) m h = (e, refl, cc)
with_said neg d k None m h = nothing_said h

end_said : (neg : Bool) (d n k : ℕ) (s : List ℕ) (m : Numeral) → end_by neg d n k s ≡ Some m → EndSaid neg d n k s m
unfolding end_by
end_said neg d n k [] m h = nothing_said h
end_said neg d n k (c ∷ s) m h =
    let (tests, rest) = passed (leb 1 n && eqb c letter_p) h in
    let (some, p) = (and-eq-true_iff (leb 1 n) (eqb c letter_p)).0 tests in
    let (e, x, is) = with_said neg d k (exponent_of s) m rest in
    record { tail = s; e = e; text = ap (λ b. b ∷ s) (eqb-true c letter_p p); some = leb-true 1 n some; exponent = exponent_said s e x; is = is }

-- ---- the significand
pub record UnsignedSaid (neg : Bool) (s : List ℕ) (m : Numeral) : Type 0 where
  pub d : ℕ
  pub k : ℕ
  pub e : ℤ
  pub unsigned : Unsigned s d k e
  pub is : number neg d k e ≡ m

module _ (neg : Bool) (s : List ℕ) (m : Numeral) where
  whole_said : {v n : ℕ} {u : List ℕ} → Taken 16 0 0 s (parts v n u) → EndSaid neg v n 0 u m → UnsignedSaid neg (prefix ++ s) m
  whole_said {v} t x =
      let same : v ≡ t.spells = omega (arith, t.spelt) in
      let text : t.digits ++ (letter_p ∷ x.tail) ≡ s = ap (λ l. t.digits ++ l) (sym x.text) ∙ sym t.text in
      let sig : Significand t.digits t.spells 0 = whole t.are_digits (omega (arith, x.some, t.count)) in
      record { d = v; k = 0; e = x.e; unsigned = subst₂ (λ l w. Unsigned (prefix ++ l) w 0 x.e) text (sym same) (constant sig x.exponent); is = x.is }

  pointed_said : {v n c : ℕ} {u : List ℕ} {r : Run} → Taken 16 0 0 s (parts v n (c ∷ u)) → c ≡ point → Taken 16 v 0 u r → EndSaid neg r.spelt (n + r.count) r.count r.rest m → UnsignedSaid neg (prefix ++ s) m
  pointed_said {v} {n} {c} {u} {r} t p q x =
      let before : v ≡ t.spells = omega (arith, t.spelt) in
      let after : length q.digits ≡ r.count = omega (arith, q.count) in
      let same : t.spells * 16 ^ length q.digits + q.spells ≡ r.spelt = ap (λ w. w * 16 ^ length q.digits + q.spells) (sym before) ∙ sym q.spelt in
      let behind : q.digits ++ (letter_p ∷ x.tail) ≡ u = ap (λ l. q.digits ++ l) (sym x.text) ∙ sym q.text in
      let text : t.digits ++ (point ∷ q.digits) ++ (letter_p ∷ x.tail) ≡ s =
      append_assoc t.digits (point ∷ q.digits) (letter_p ∷ x.tail) ∙ ap (λ l. t.digits ++ l) (ap (λ l. point ∷ l) behind ∙ ap (λ b. b ∷ u) (sym p)) ∙ sym t.text in
      let sig : Significand (t.digits ++ (point ∷ q.digits)) (t.spells * 16 ^ length q.digits + q.spells) (length q.digits) =
      pointed t.are_digits q.are_digits (omega (arith, x.some, t.count, q.count)) in
      record {
        d = r.spelt;
        k = r.count;
        e = x.e;
        unsigned = subst₃ (λ l w j. Unsigned (prefix ++ l) w j x.e) text same after (constant sig x.exponent);
        is = x.is;
      }

  -- by what follows the n digits that spell v
  rest_said : (v n : ℕ) (u : List ℕ) → Taken 16 0 0 s (parts v n u) → point_by neg v n u ≡ Some m → UnsignedSaid neg (prefix ++ s) m
  unfolding point_by
  rest_said v n [] t h = nothing_said h
  rest_said v n (c ∷ u) t h =
      split (eqb_reads c point)
      (λ p. let r : Run = run 16 v 0 u in
      pointed_said t p (run_taken 16 v 0 u) (end_said neg r.spelt (n + r.count) r.count r.rest m (rw (eq-eqb c point p) at h)))
      (λ p. whole_said t (end_said neg v n 0 (c ∷ u) m (rw (ne_eqb c point p) at h)))

pub unsigned_said : (neg : Bool) (s : List ℕ) (m : Numeral) → unsigned_of neg s ≡ Some m → UnsignedSaid neg s m
unfolding unsigned_of
unsigned_said neg [] m h = nothing_said h
unsigned_said neg (b ∷ []) m h = nothing_said h
unsigned_said neg (b ∷ c ∷ s) m h =
    let (tests, said) = passed (eqb b 48 && eqb c 120) h in
    let (p, q) = (and-eq-true_iff (eqb b 48) (eqb c 120)).0 tests in
    let r : Run = run 16 0 0 s in
    subst₂ (λ i j. UnsignedSaid neg (i ∷ j ∷ s) m) (sym (eqb-true b 48 p)) (sym (eqb-true c 120 q)) (rest_said neg s m r.spelt r.count r.rest (run_taken 16 0 0 s) said)
