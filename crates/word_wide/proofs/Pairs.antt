-- Two-word numbers h * B + l in base B. Assumes nothing.
use Rattle.std.proofs.Common.{◌≡◌, ℕ, suc, ◌+◌, ◌-◌, ◌*◌, ◌/◌, ◌%◌, ◌<◌, ◌≤◌, ltb, sym, ap, ◌∙◌, ap₂, div-add-mod', arith, le-ltb, lt-ltb, Ordering, Less, Equal, Greater}
use Rattle.std.specs.Ordering.{nat_cmp, MatchOrdering}
use Rattle.std.specs.Cmp.{nat_cmp_is, ranks}
use Rattle.algebra.proofs.Products.{order, times, times_le, mul_lt_cancel}
use Rattle.algebra.proofs.Quotients.{mod_is}

-- quotient and remainder make up the number
pub rejoined : (B n m h l : ℕ) → h ≡ n / B → l ≡ m % B → n ≡ m → h * B + l ≡ m
rejoined B n m h l e f g = ap₂ (λ x y. x * B + y) (e ∙ ap (λ x. x / B) g) f ∙ div-add-mod' m B

-- the upper word of a two-word number is a word
pub upper_is_word : (B h n : ℕ) → h * B ≤ n → n < B * B → h < B
upper_is_word B h n e p = mul_lt_cancel h B B (omega arith)

-- The order of two numbers: the upper words decide, and the lower ones where those are equal.
pub upper_le : (B ah al bh bl : ℕ) → al < B → bh * B + bl ≤ ah * B + al → bh ≤ ah
upper_le B ah al bh bl p h = let q = mul_lt_cancel bh (suc ah) B (omega arith) in omega arith

pub upper_lt : (B ah al bh bl : ℕ) → al < bl → bh * B + bl ≤ ah * B + al → bh < ah
upper_lt B ah al bh bl p h = mul_lt_cancel bh ah B (omega arith)

pub upper_decides : (B ah al bh bl : ℕ) → al < B → ah < bh → ah * B + al < bh * B + bl
upper_decides B ah al bh bl p h = omega (arith, times_le B h)

-- a word r for which r + b wraps to a, below b: r + b has wrapped once
pub wrapped_once : (B a b r : ℕ) → r < B → b < B → (r + b) % B ≡ a → a < b → r + b ≡ a + B
wrapped_once B a b r hr hb e h =
    order B (r + b) (λ l. let w = mod_is (r + b) B 1 (r + b - B) (omega arith) (omega arith) in omega arith)
    (λ l. let w = mod_is (r + b) B 0 (r + b) l (omega arith) in omega arith)

-- the difference, with a borrow from the upper word and without
pub difference_borrows : (B ah al bh bl h l : ℕ) → bh < ah → h ≡ ah - bh - 1 → l + bl ≡ al + B → h * B + l ≡ (ah * B + al) - (bh * B + bl)
difference_borrows B ah al bh bl h l p e f = let g : h + bh + 1 ≡ ah = omega arith in omega (arith, times B g)

pub difference_keeps : (B ah al bh bl h l : ℕ) → bh ≤ ah → bl ≤ al → h ≡ ah - bh → l ≡ al - bl → h * B + l ≡ (ah * B + al) - (bh * B + bl)
difference_keeps B ah al bh bl h l p q e f = let g : h + bh ≡ ah = omega arith in omega (arith, times B g)

-- two tests are equal where their orders agree
pub same_test : (a b c d : ℕ) → (a < b → c < d) → (b ≤ a → d ≤ c) → ltb a b ≡ ltb c d
same_test a b c d f g =
    order b a (λ h. le-ltb a b h ∙ sym (le-ltb c d (g h))) (λ h. lt-ltb a b h ∙ sym (lt-ltb c d (f h)))

-- the test of the lower words, and of the upper ones
pub lower_test : (B ah al bh bl : ℕ) → ah ≡ bh → ltb al bl ≡ ltb (ah * B + al) (bh * B + bl)
lower_test B ah al bh bl e =
    same_test al bl (ah * B + al) (bh * B + bl) (λ h. omega (arith, times B e)) (λ h. omega (arith, times B e))

pub upper_test : (B ah al bh bl : ℕ) → al < B → bl < B → (ah ≡ bh → ⊥) → ltb ah bh ≡ ltb (ah * B + al) (bh * B + bl)
upper_test B ah al bh bl p q n =
    same_test ah bh (ah * B + al) (bh * B + bl) (λ h. upper_decides B ah al bh bl p h)
    (λ h. let l : bh < ah = order ah bh (λ g. absurd (n (omega arith))) (λ g. g) in let r = upper_decides B bh bl ah al q l in omega arith)

-- the order of the upper words, where they differ
pub upper_order : (B ah al bh bl : ℕ) → al < B → bl < B → (ah ≡ bh → ⊥) → nat_cmp ah bh ≡ nat_cmp (ah * B + al) (bh * B + bl)
upper_order B ah al bh bl p q n = nat_cmp_is (ah * B + al) (bh * B + bl) (nat_cmp ah bh) (whole (nat_cmp ah bh) (ranks ah bh))
  where
    whole : (r : Ordering) → MatchOrdering r (ah < bh) (ah ≡ bh) (bh < ah)
        → MatchOrdering r (ah * B + al < bh * B + bl) (ah * B + al ≡ bh * B + bl) (bh * B + bl < ah * B + al)
    whole Less h = upper_decides B ah al bh bl p h
    whole Equal h = absurd (n h)
    whole Greater h = upper_decides B bh bl ah al q h
