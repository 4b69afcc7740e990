-- Integers for `omega`: z is `up z - dn z`, one of which is 0, so that each fact about integers is one about whole numbers, which `omega` reads.
-- A goal: `eq_z a b (omega (arith, add_z a b))`. A hypothesis: `omega (arith, le_z_fact a b h)`. Assumes nothing.
use mathlib.Core.Path.{◌≡◌, refl, sym, ap, ◌∙◌, subst}
use mathlib.Core.Bool.{Bool, true, false, not, cond}
use Prim.Native.Nat.{ℕ, zero, suc, ◌+◌, ◌-◌, ◌*◌, ◌^◌, ◌≤◌, ◌<◌, min}
use native.Mathlib.Omega.{arith}
use lib.Dec.{T, ltb, ltb→lt, nltb→le, lt→ltb, le→leb, leb→le}
use lib.IntN.{ℤ, pos, negsuc, neg_ℤ, nat_abs, sub_ℕ, ◌+ℤ◌, ◌-ℤ◌, ◌*ℤ◌}
use lib.Signed.{mag, le_z, lt_z, non_neg}
use mir.Syntax.{Width}
use mir.Val.{SFits, hbits}

abbrev pub up : ℤ → ℕ
up (pos n) = n
up (negsuc n) = 0

abbrev pub dn : ℤ → ℕ
dn (pos n) = 0
dn (negsuc n) = suc n

-- ---- the operations
sub_by : (t : Bool) (a b : ℕ) → (T t → a < b) → (T (not t) → b ≤ a) → up (cond t (negsuc (b - suc a)) (pos (a - b))) + b ≡ dn (cond t (negsuc (b - suc a)) (pos (a - b))) + a
sub_by true a b f g = omega (arith, f tt)
sub_by false a b f g = omega (arith, g tt)

pub subℕ_fact : (a b : ℕ) → up (sub_ℕ a b) + b ≡ dn (sub_ℕ a b) + a
subℕ_fact a b = sub_by (ltb a b) a b (ltb→lt a b) (nltb→le a b)

pub add_z : (a b : ℤ) → up (a +ℤ b) + dn a + dn b ≡ dn (a +ℤ b) + up a + up b
add_z (pos a) (pos b) = omega arith
add_z (pos a) (negsuc b) = omega (arith, subℕ_fact a (suc b))
add_z (negsuc a) (pos b) = omega (arith, subℕ_fact b (suc a))
add_z (negsuc a) (negsuc b) = omega arith

pub neg_z : (a : ℤ) → (up (neg_ℤ a) ≡ dn a) × (dn (neg_ℤ a) ≡ up a)
neg_z (pos zero) = (refl, refl)
neg_z (pos (suc n)) = (refl, refl)
neg_z (negsuc n) = (refl, refl)

pub times_z : (a : ℤ) (d : ℕ) → (up (a *ℤ pos d) ≡ up a * d) × (dn (a *ℤ pos d) ≡ dn a * d)
times_z (pos n) d = (refl, omega arith)
times_z (negsuc n) d = let (p, q) = neg_z (pos (suc n * d)) in (p ∙ omega arith, q)

pub sub_z : (a b : ℤ) → up (a -ℤ b) + dn a + up b ≡ dn (a -ℤ b) + up a + dn b
sub_z a b = omega (arith, add_z a (neg_ℤ b), neg_z b)

-- one of the two is 0
pub one_z : (a : ℤ) → min (up a) (dn a) ≡ 0
one_z (pos n) = omega arith
one_z (negsuc n) = omega arith

pub abs_z : (a : ℤ) → (nat_abs a ≡ up a + dn a) × (min (up a) (dn a) ≡ 0)
abs_z (pos n) = omega arith
abs_z (negsuc n) = omega arith

-- ---- facts
pub eq_z_fact : {a b : ℤ} → a ≡ b → (up a ≡ up b) × (dn a ≡ dn b)
eq_z_fact e = (ap up e, ap dn e)

pub le_z_fact : (a b : ℤ) → T (le_z a b) → up a + dn b ≤ up b + dn a
le_z_fact (pos a) (pos b) t = omega (arith, leb→le a b t)
le_z_fact (pos a) (negsuc b) t = absurd t
le_z_fact (negsuc a) (pos b) t = omega arith
le_z_fact (negsuc a) (negsuc b) t = omega (arith, leb→le b a t)

pub lt_z_fact : (a b : ℤ) → T (lt_z a b) → up a + dn b < up b + dn a
lt_z_fact (pos a) (pos b) t = omega (arith, ltb→lt a b t)
lt_z_fact (pos a) (negsuc b) t = absurd t
lt_z_fact (negsuc a) (pos b) t = omega arith
lt_z_fact (negsuc a) (negsuc b) t = omega (arith, ltb→lt b a t)

pub nlt_z_fact : (a b : ℤ) → T (not (lt_z a b)) → up b + dn a ≤ up a + dn b
nlt_z_fact (pos a) (pos b) t = omega (arith, nltb→le a b t)
nlt_z_fact (pos a) (negsuc b) t = omega arith
nlt_z_fact (negsuc a) (pos b) t = absurd t
nlt_z_fact (negsuc a) (negsuc b) t = omega (arith, nltb→le b a t)

-- the outcome of a test, as a branch hands it over
pub lt_z_true : (a b : ℤ) → lt_z a b ≡ true → up a + dn b < up b + dn a
lt_z_true a b e = lt_z_fact a b (subst T (sym e) tt)

pub lt_z_false : (a b : ℤ) → lt_z a b ≡ false → up b + dn a ≤ up a + dn b
lt_z_false a b e = nlt_z_fact a b (subst (λ (t : Bool). T (not t)) (sym e) tt)

-- a range: mag z < h means -h ≤ z < h
pub mag_z_fact : (z : ℤ) {h : ℕ} → mag z < h → (up z < h) × (dn z ≤ h)
mag_z_fact (pos n) l = (l, omega arith)
mag_z_fact (negsuc n) l = (omega arith, l)

-- ---- goals
pub eq_z : (a b : ℤ) → up a + dn b ≡ up b + dn a → a ≡ b
eq_z (pos a) (pos b) e = ap pos (omega arith)
eq_z (pos a) (negsuc b) e = absurd (omega arith)
eq_z (negsuc a) (pos b) e = absurd (omega arith)
eq_z (negsuc a) (negsuc b) e = ap negsuc (omega arith)

pub le_z_of : (a b : ℤ) → up a + dn b ≤ up b + dn a → T (le_z a b)
le_z_of (pos a) (pos b) h = le→leb a b (omega arith)
le_z_of (pos a) (negsuc b) h = absurd (omega arith)
le_z_of (negsuc a) (pos b) h = tt
le_z_of (negsuc a) (negsuc b) h = le→leb b a (omega arith)

pub lt_z_of : (a b : ℤ) → up a + dn b < up b + dn a → T (lt_z a b)
lt_z_of (pos a) (pos b) h = lt→ltb a b (omega arith)
lt_z_of (pos a) (negsuc b) h = absurd (omega arith)
lt_z_of (negsuc a) (pos b) h = tt
lt_z_of (negsuc a) (negsuc b) h = lt→ltb b a (omega arith)

pub mag_z : (z : ℤ) (h : ℕ) → up z < h + dn z → dn z ≤ h + up z → mag z < h
mag_z (pos n) h p q = omega arith
mag_z (negsuc n) h p q = omega arith

pub sfits_z : (w : Width) (z : ℤ) → up z < 2 ^ hbits w + dn z → dn z ≤ 2 ^ hbits w + up z → SFits w z
sfits_z w z p q = record { sfits = mag_z z (2 ^ hbits w) p q }

pub non_neg_z : (z : ℤ) → dn z ≤ up z → T (non_neg z)
non_neg_z (pos n) h = tt
non_neg_z (negsuc n) h = absurd (omega arith)
