-- Laws of the same bytes and of the end of a name, and a search through a table of names finds the row of a name. Assumes nothing.
use Rattle.std.proofs.Common.{◌≡◌, ℕ, suc, ◌+◌, ◌-◌, ◌<◌, ◌≤◌, Bool, true, false, cond, not, ltb, eqb, ◌&&◌, T, List, [], ◌∷◌, ◌++◌, length, take, drop, map, refl, sym, ap, ◌∙◌, arith, eqb→eq, length-append, take_at, drop_at, le-leb, Option, Some, None}
use Rattle.std.specs.Prelude.{option_map}
use Rattle.std.specs.Cmp.Lexicographic.{pointwise}
use Rattle.std.specs.List.{position_or_len, find, enumerate_from}
use lib.Dec.{eqb_refl}
use borrow.Author.Tests.{ltb-true, ltb-false}
use Rattle.text_lines.specs.Offsets.{starts, ahead, offset_of, part_of}
use Rattle.cmd_operations.specs.declared.table.Row.{Row}
use Rattle.cmd_operations.specs.Naming.{Named, without, same, row_at, row_in}

-- a search finds no offset before its start
pub found_after : (p s : List ℕ) (from : ℕ) → from ≤ length s → from ≤ offset_of p s from
unfolding offset_of
found_after p s from h = omega arith

-- ---- both parts of a test

pub and_first : (a b : Bool) → T (a && b) → T a
and_first true b h = tt
and_first false b h = h

pub and_second : (a b : Bool) → T (a && b) → T b
and_second true b h = h
and_second false b h = absurd h

is_true : (b : Bool) → T b → b ≡ true
is_true true h = refl
is_true false h = absurd h

-- ---- the same bytes: the test is true of equal lists, and false of others

same_refl : (s : List ℕ) → same s s ≡ true
unfolding same
same_refl [] = refl
same_refl (a ∷ s) = rw (is_true (eqb a a) (eqb_refl a)) (same_refl s)

pub same_is : (s t : List ℕ) → s ≡ t → same s t ≡ true
same_is s t e = rw (← e) (same_refl s)

tail_same : (a b : ℕ) (s t : List ℕ) → T (eqb a b) → s ≡ t → ◌≡◌ {A = List ℕ} (a ∷ s) (b ∷ t)
tail_same a b s t h e = rw (eqb→eq a b h, e)

same_eq : (s t : List ℕ) → T (same s t) → s ≡ t
unfolding same
same_eq [] [] h = refl
same_eq [] (b ∷ t) h = absurd h
same_eq (a ∷ s) [] h = absurd h
same_eq (a ∷ s) (b ∷ t) h = tail_same a b s t (and_first (eqb a b) (same s t) h) (same_eq s t (and_second (eqb a b) (same s t) h))

pub same_is_not : (s t : List ℕ) → (s ≡ t → ⊥) → same s t ≡ false
same_is_not s t never = not_true (same s t) (λ h. never (same_eq s t h))
  where
    not_true : (b : Bool) → (T b → ⊥) → b ≡ false
    not_true true f = absurd (f tt)
    not_true false f = refl

-- ---- the end of a name: the first byte b after a part without it, and the part that stands there

ahead_step : (b c : ℕ) (s : List ℕ) (t : Bool) → T (not t) → t ≡ eqb c b → ahead (b ∷ []) (c ∷ s) ≡ suc (ahead (b ∷ []) s)
unfolding ahead starts
ahead_step b c s false h e = rw (← e)
ahead_step b c s true h e = absurd h

ahead_of : (b : ℕ) (u rest : List ℕ) → T (without b u) → ahead (b ∷ []) (u ++ (b ∷ rest)) ≡ length u
unfolding without ahead starts
ahead_of b [] rest h = rw (is_true (eqb b b) (eqb_refl b))
ahead_of b (c ∷ u) rest h =
    ahead_step b c (u ++ (b ∷ rest)) (eqb c b) (and_first (not (eqb c b)) (without b u) h) refl
    ∙ ap suc (ahead_of b u rest (and_second (not (eqb c b)) (without b u) h))

module _ (b : ℕ) (before u rest : List ℕ) (free : T (without b u)) where
  pub ends_at : offset_of (b ∷ []) (before ++ (u ++ (b ∷ rest))) (length before) ≡ length before + length u
  unfolding offset_of
  ends_at =
      rw (drop_at before (u ++ (b ∷ rest)) (length before) refl, ahead_of b u rest free)
      (simp length-append (omega arith))

  pub stands_there : part_of (before ++ (u ++ (b ∷ rest))) (length before) (length before + length u) ≡ u
  unfolding part_of
  stands_there =
      let room : length before + length u ≤ length (before ++ (u ++ (b ∷ rest))) = simp length-append (omega arith) in
      let most : length before + length u - length before ≡ length u = omega arith in
      rw (le-leb _ _ room, most, drop_at before (u ++ (b ∷ rest)) (length before) refl) (take_at u (b ∷ rest) (length u) refl)

-- ---- the search

pub same_pointwise : (s t : List ℕ) → pointwise eqb s t ≡ same s t
unfolding same
same_pointwise [] [] = refl
same_pointwise [] (b ∷ t) = refl
same_pointwise (a ∷ s) [] = refl
same_pointwise (a ∷ s) (b ∷ t) = ap (λ (r : Bool). eqb a b && r) (same_pointwise s t)

-- xs is a table, of which each element is a row
module _ {A : Type 0} (row : A → Named) (s : List ℕ) where
  abbrev pub number : Row → ℕ
  number w = w.number

  abbrev pub number_in : List A → ℕ → Option ℕ
  number_in xs n = option_map number (row_in s (map row xs) n)

  -- how many elements come before the first with the name s
  abbrev place : List A → ℕ
  place xs = position_or_len (λ x. pointwise eqb s (row x).name) xs

  -- where the name is among them, and where it is not
  found_at : (b : Bool) (x : A) (xs : List A) (n : ℕ) → pointwise eqb s (row x).name ≡ b
      → (place xs < length xs → number_in xs (n + 1) ≡ Some (n + 1 + place xs)) → place (x ∷ xs) < suc (length xs)
      → option_map number (cond b (Some (row_at n (row x))) (row_in s (map row xs) (n + 1))) ≡ Some (n + place (x ∷ xs))
  found_at true x xs n e i h = rw e (ap Some (omega arith))
  found_at false x xs n e i h =
      let h' = rw e at h in
      rw e (i (omega arith) ∙ ap Some (omega arith))

  found : (xs : List A) (n : ℕ) → place xs < length xs → number_in xs n ≡ Some (n + place xs)
  unfolding row_in
  found [] n h = absurd (omega arith)
  found (x ∷ xs) n h = found_at (same s (row x).name) x xs n (same_pointwise s (row x).name) (found xs (n + 1)) h

  missing_at : (b : Bool) (x : A) (xs : List A) (n : ℕ) → pointwise eqb s (row x).name ≡ b → (length xs ≤ place xs → number_in xs (n + 1) ≡ None)
      → suc (length xs) ≤ place (x ∷ xs) → option_map number (cond b (Some (row_at n (row x))) (row_in s (map row xs) (n + 1))) ≡ None
  missing_at true x xs n e i h = absurd (let h' = rw e at h in omega arith)
  missing_at false x xs n e i h = let h' = rw e at h in i (omega arith)

  missing : (xs : List A) (n : ℕ) → length xs ≤ place xs → number_in xs n ≡ None
  unfolding row_in
  missing [] n h = refl
  missing (x ∷ xs) n h = missing_at (same s (row x).name) x xs n (same_pointwise s (row x).name) (missing xs (n + 1)) h

  -- `position` gives the number of the name
  pub number_found : (xs : List A) (r : Option ℕ) → r ≡ cond (ltb (place xs) (length xs)) (Some (place xs)) None → r ≡ number_in xs 0
  number_found xs r e = by_test (ltb (place xs) (length xs)) refl
    where
      by_test : (b : Bool) → ltb (place xs) (length xs) ≡ b → r ≡ number_in xs 0
      by_test true h =
          let z : 0 + place xs ≡ place xs = omega arith in
          let e' = rw h at e in
          e' ∙ ap Some (sym z) ∙ sym (found xs 0 (omega (arith, ltb-true (place xs) (length xs) h)))
      by_test false h =
          let e' = rw h at e in
          e' ∙ sym (missing xs 0 (omega (arith, ltb-false (place xs) (length xs) h)))

  -- `find` gives the row
  abbrev pub is_here : ℕ × A → Bool
  is_here p = pointwise eqb s (row p.1).name

  abbrev pub numbered : ℕ × A → Row
  numbered p = row_at p.0 (row p.1)

  row_found_at : (b : Bool) (x : A) (xs : List A) (n : ℕ) → pointwise eqb s (row x).name ≡ b
      → option_map numbered (find is_here (enumerate_from (n + 1) xs)) ≡ row_in s (map row xs) (n + 1)
      → option_map numbered (find is_here (enumerate_from n (x ∷ xs))) ≡ cond b (Some (row_at n (row x))) (row_in s (map row xs) (n + 1))
  row_found_at true x xs n e i = rw e
  row_found_at false x xs n e i = rw e i

  pub row_found : (xs : List A) (n : ℕ) → option_map numbered (find is_here (enumerate_from n xs)) ≡ row_in s (map row xs) n
  unfolding row_in
  row_found [] n = refl
  row_found (x ∷ xs) n = row_found_at (same s (row x).name) x xs n (same_pointwise s (row x).name) (row_found xs (n + 1))
