-- The list call: what it refuses, and what the output holds at each place. Assumes nothing.
use Prim.Native.Nat.{ℕ, zero, suc, ◌≤◌, ◌<◌}
use mathlib.Core.Path.{◌≡◌, refl, sym, ap, ◌∙◌}
use mathlib.Core.Logic.Iff
use mathlib.Core.Logic.{◌↔◌, ◌⊎◌, inl, inr}
use mathlib.Core.Bool.{Bool, not, ◌&&◌, ◌||◌}
use mathlib.Core.List.{List, [], ◌∷◌, map}
use native.Mathlib.Omega.{arith}
use lib.Dec.{leb, ltb, eqb}
use lib.ListN.{length, get_or, length-map}
use lib.Seq.{ext_get_or}
use Rattle.ieee.specs.Format.{Format}
use Rattle.ieee.specs.Sqrt.{sqrt_of}
use Rattle.ieee.specs.Whole.{floor_of, trunc_of}
use Rattle.ieee.specs.Refusal.{given, done, refused, number_of, value_of}
use Rattle.ieee.specs.Lists.{list_limit, operation, list_refusals, Listed, list_by, list_in, list_of}
use Rattle.ieee.specs.ListRule.{Known, Long, Short, SameLength, ListRefusals, ListedAs}
use Rattle.ieee.proofs.Decide.{Reads, so, not_so, split, leb_reads, eqb_reads, and_reads}
use Rattle.ieee.proofs.Refusals.{given_first, given_none, first_here, first_later, none_later, none_last, Tells, by_reads, ltb_tells, not_tells, or_tells, either, same_at}

pub operation_sqrt : (f : Format) (x : ℕ) → operation f 1 x ≡ sqrt_of f x
unfolding operation
operation_sqrt f x = refl

pub operation_floor : (f : Format) (x : ℕ) → operation f 2 x ≡ floor_of f x
unfolding operation
operation_floor f x = refl

pub operation_trunc : (f : Format) (x : ℕ) → operation f 3 x ≡ trunc_of f x
unfolding operation
operation_trunc f x = refl

pub list_refusals_same : {n op i j : ℕ} {xs ys : List ℕ} → ListRefusals n op xs ys i → ListRefusals n op xs ys j → i ≡ j
list_refusals_same {i = i} {j} p q = go p.only
  where
    go : (i ≡ 0) ⊎ (i ≡ 1) ⊎ (i ≡ 2) ⊎ (i ≡ 3) → i ≡ j
    go (inl h) = same_at p.none q.none h
    go (inr (inl h)) = same_at p.one q.one h
    go (inr (inr (inl h))) = same_at p.two q.two h
    go (inr (inr (inr h))) = same_at p.three q.three h

-- ---- the tests and what they tell
pub in_range : (op : ℕ) → 1 ≤ op → op ≤ 3 → Known op
in_range zero l h = absurd (omega arith)
in_range (suc zero) l h = inl refl
in_range (suc (suc zero)) l h = inr (inl refl)
in_range (suc (suc (suc zero))) l h = inr (inr refl)
in_range (suc (suc (suc (suc k)))) l h = absurd (omega arith)

pub range_of : {op : ℕ} → Known op → (1 ≤ op) × (op ≤ 3)
range_of (inl e) = omega arith
range_of (inr (inl e)) = omega arith
range_of (inr (inr e)) = omega arith

known_reads : (op : ℕ) → Reads (Known op) (leb 1 op && leb op 3)
known_reads op = go (and_reads (leb_reads 1 op) (leb_reads op 3))
  where
    go : {b : Bool} → Reads ((1 ≤ op) × (op ≤ 3)) b → Reads (Known op) b
    go (so h) = so (in_range op h.0 h.1)
    go (not_so n) = not_so (λ h. n (range_of h))

module _ (n op : ℕ) (xs ys : List ℕ) where
  unknown : Tells (Known op → ⊥) (Known op) (not (leb 1 op && leb op 3))
  unknown = not_tells (by_reads (known_reads op) Iff.rfl)

  long : Tells (Long n xs ys) (Short n xs ys) (ltb n (length xs) || ltb n (length ys))
  long = or_tells (ltb_tells n (length xs)) (ltb_tells n (length ys))

  unlike : Tells (SameLength xs ys → ⊥) (SameLength xs ys) (not (eqb (length xs) (length ys)))
  unlike = not_tells (by_reads (eqb_reads (length xs) (length ys)) Iff.rfl)

  pub given_refusals : ListRefusals n op xs ys (given (list_refusals n op xs ys))
  given_refusals = record { one = one; two = two; three = three; none = none; only = only }
    where
      k : ℕ
      k = given (list_refusals n op xs ys)

      one : (k ≡ 1) ↔ (Known op → ⊥)
      one = Iff.trans (given_first (list_refusals n op xs ys) 1 (omega arith)) (first_here unknown (omega arith))

      two : (k ≡ 2) ↔ (Known op × Long n xs ys)
      two = Iff.trans (given_first (list_refusals n op xs ys) 2 (omega arith)) (first_later unknown (omega arith) (first_here long (omega arith)))

      three : (k ≡ 3) ↔ (Known op × (Short n xs ys × (SameLength xs ys → ⊥)))
      three = Iff.trans (given_first (list_refusals n op xs ys) 3 (omega arith)) (first_later unknown (omega arith) (first_later long (omega arith) (first_here unlike (omega arith))))

      none : (k ≡ 0) ↔ (Known op × (Short n xs ys × SameLength xs ys))
      none = Iff.trans (given_none (list_refusals n op xs ys) (omega arith)) (none_later unknown (none_later long (none_last unlike)))

      only : (k ≡ 0) ⊎ (k ≡ 1) ⊎ (k ≡ 2) ⊎ (k ≡ 3)
      only =
          either unknown (λ u. inr (inl (one.1 u))) (λ o.
          either long (λ l. inr (inr (inl (two.1 (o, l))))) (λ s.
          either unlike (λ d. inr (inr (inr (three.1 (o, (s, d)))))) (λ a.
          inl (none.1 (o, (s, a))))))

map_places : (g : ℕ → ℕ) (xs : List ℕ) (i : ℕ) → i < length xs → get_or (map g xs) i 0 ≡ g (get_or xs i 0)
map_places g [] i l = absurd (omega arith)
map_places g (x ∷ xs) zero l = refl
map_places g (x ∷ xs) (suc i) l = map_places g xs i (omega arith)

module _ (f : Format) (n op : ℕ) (xs ys : List ℕ) where
  listed_by : (k : ℕ) → ListRefusals n op xs ys k → ListedAs f n op xs ys (list_by f op xs ys k)
  unfolding list_by
  listed_by zero r =
      record {
        refusals = r;
        no_value = refl;
        untouched = λ z. absurd (z refl);
        filled = λ z. length-map xs (operation f op);
        roots = λ z e i l. map_places (operation f op) xs i l ∙ ap (λ k. operation f k (get_or xs i 0)) e ∙ operation_sqrt f (get_or xs i 0);
        floors = λ z e i l. map_places (operation f op) xs i l ∙ ap (λ k. operation f k (get_or xs i 0)) e ∙ operation_floor f (get_or xs i 0);
        truncs = λ z e i l. map_places (operation f op) xs i l ∙ ap (λ k. operation f k (get_or xs i 0)) e ∙ operation_trunc f (get_or xs i 0);
      }
  listed_by (suc k) r =
      record {
        refusals = r;
        no_value = refl;
        untouched = λ z. refl;
        filled = λ z. absurd (omega arith);
        roots = λ z. absurd (omega arith);
        floors = λ z. absurd (omega arith);
        truncs = λ z. absurd (omega arith);
      }

  pub list_is : ListedAs f n op xs ys (list_in f n op xs ys)
  unfolding list_in
  list_is = listed_by (given (list_refusals n op xs ys)) (given_refusals n op xs ys)

  pub list_only : (l m : Listed) → ListedAs f n op xs ys l → ListedAs f n op xs ys m → (number_of l.answer ≡ number_of m.answer) × (value_of l.answer ≡ value_of m.answer) × (l.output ≡ m.output)
  list_only l m p q = (same, p.no_value ∙ sym q.no_value, split (eqb_reads (number_of l.answer) 0) written left)
    where
      same : number_of l.answer ≡ number_of m.answer
      same = list_refusals_same p.refusals q.refusals

      left : (number_of l.answer ≡ 0 → ⊥) → l.output ≡ m.output
      left z = p.untouched z ∙ sym (q.untouched (omega (arith, same)))

      -- at each place, by the operation
      at : number_of l.answer ≡ 0 → number_of m.answer ≡ 0 → (i : ℕ) → i < length xs → Known op → get_or l.output i 0 ≡ get_or m.output i 0
      at z y i h (inl e) = p.roots z e i h ∙ sym (q.roots y e i h)
      at z y i h (inr (inl e)) = p.floors z e i h ∙ sym (q.floors y e i h)
      at z y i h (inr (inr e)) = p.truncs z e i h ∙ sym (q.truncs y e i h)

      written : number_of l.answer ≡ 0 → l.output ≡ m.output
      written z =
          let y : number_of m.answer ≡ 0 = omega (arith, same) in
          ext_get_or 0 l.output m.output (p.filled z ∙ sym (q.filled y)) (λ i h. at z y i (omega (arith, p.filled z)) (p.refusals.none.0 z).0)

  -- ---- the cases, as results
  list_by_lem : {k : ℕ} → given (list_refusals n op xs ys) ≡ k → list_in f n op xs ys ≡ list_by f op xs ys k
  unfolding list_in
  list_by_lem e = ap (list_by f op xs ys) e

  pub unknown_refused : (Known op → ⊥) → list_in f n op xs ys ≡ record { answer = refused 1; output = ys }
  unfolding list_by
  unknown_refused u = list_by_lem ((given_refusals n op xs ys).one.1 u)

  pub long_refused : Known op → Long n xs ys → list_in f n op xs ys ≡ record { answer = refused 2; output = ys }
  unfolding list_by
  long_refused o l = list_by_lem ((given_refusals n op xs ys).two.1 (o, l))

  pub list_done : Known op → Short n xs ys → SameLength xs ys → list_in f n op xs ys ≡ record { answer = done 0; output = map (operation f op) xs }
  unfolding list_by
  list_done o s e = list_by_lem ((given_refusals n op xs ys).none.1 (o, (s, e)))

pub empty_done : (f : Format) (n op : ℕ) → Known op → list_in f n op [] [] ≡ record { answer = done 0; output = [] }
empty_done f n op o = list_done f n op [] [] o (omega arith) refl

-- ---- at the limit
pub list_limit_done : (f : Format) (op : ℕ) (xs ys : List ℕ) → Known op → length xs ≡ 8192 → length ys ≡ 8192 → list_of f op xs ys ≡ record { answer = done 0; output = map (operation f op) xs }
unfolding list_of
list_limit_done f op xs ys o p q = list_done f 8192 op xs ys o (omega arith) (p ∙ sym q)

pub past_list_limit_refused : (f : Format) (op : ℕ) (xs ys : List ℕ) → Known op → length xs ≡ 8193 → list_of f op xs ys ≡ record { answer = refused 2; output = ys }
unfolding list_of
past_list_limit_refused f op xs ys o p = long_refused f 8192 op xs ys o (inl (omega arith))

-- ---- with the limit that is promised
pub list_of_is : (f : Format) (op : ℕ) (xs ys : List ℕ) → ListedAs f list_limit op xs ys (list_of f op xs ys)
unfolding list_of
list_of_is f op xs ys = list_is f list_limit op xs ys
