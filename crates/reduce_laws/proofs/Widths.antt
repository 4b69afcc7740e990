-- The reducer over words of w bits: what each of its functions requires and gives. Assumes nothing.
use Prim.Native.Nat.{ℕ, ◌+◌, ◌-◌, ◌*◌, ◌/◌, ◌%◌, ◌^◌, ◌≤◌, ◌<◌}
use mathlib.Core.Path.{◌≡◌, refl, sym, ap, ◌∙◌, subst}
use native.Mathlib.Omega.{arith}
use lib.Pow.{pow-add, pow_pos, pow_mono}
use Rattle.algebra.proofs.Products.{times, times_le, mul_lt_cancel}
use Rattle.algebra.proofs.Powers.{pow_diff}
use Rattle.algebra.proofs.Quotients.{div_mod, div_is}
use Rattle.reduce_laws.specs.Reducer.{half, Holds, held_of, Reduces, Stepped}
use Rattle.reduce_laws.proofs.Bounds.{Kept, whole_passes_word, product_room, upper_room, upper_gives_held}
use Rattle.reduce_laws.proofs.Steps.{Started, started, Next, next, Word, word_step}

-- ---- the powers of two, by half a word's range
module _ {w : ℕ} (wide : 3 ≤ w) where
  abbrev s : ℕ
  s = 2 ^ (w - 1)

  word_is : 2 ^ w ≡ 2 * s
  word_is = omega (arith, pow_diff {a = w} {b = 1} (omega arith))

  half_is : half w ≡ 2 * (s * s)
  unfolding half
  half_is = ap (λ i. 2 ^ i) (omega arith) ∙ pow-add 2 1 ((w - 1) + (w - 1)) ∙ ap (λ t. 2 * t) (pow-add 2 (w - 1) (w - 1))

  quarter_is : 2 ^ (w - 2) * 2 ≡ s
  quarter_is = ap (λ i. 2 ^ i * 2) (omega arith) ∙ pow_diff {a = w - 1} {b = 1} (omega arith)

  eighth_is : 2 ^ (w - 3) * 4 ≡ s
  eighth_is = ap (λ i. 2 ^ i * 4) (omega arith) ∙ pow_diff {a = w - 1} {b = 2} (omega arith)

  -- ---- to plain numbers, and back
  kept_of : {n x m r t : ℕ} → Holds w n x m r t → Kept s n x (half w / m) r t
  kept_of {n} {x} {m} {r} {t} h =
      record {
        above = omega (arith, h.above, eighth_is);
        below = omega (arith, h.below, quarter_is);
        small = h.small;
        whole = omega (arith, d, h.rest, h.twice, times (half w / m) h.twice, half_is);
        rest = omega (arith, d, h.rest, h.twice);
        product = omega (arith, h.product);
      }
    where
      d : (half w / m * m + half w % m ≡ half w) × (half w % m < m)
      d = div_mod (half w) m (omega (arith, h.twice, h.above))

  holds_of : {n x m r t : ℕ} → m ≡ 2 * n → r ≡ half w % m → Kept s n x (half w / m) r t → Holds w n x m r t
  holds_of e d k =
      record {
        above = omega (arith, k.above, eighth_is);
        below = omega (arith, k.below, quarter_is);
        small = k.small;
        twice = e;
        rest = d;
        product = omega (arith, k.product);
      }

  -- what is held is x
  pub held_is : {n x m r t : ℕ} → Holds w n x m r t → held_of w m t ≡ x
  held_is {n} {x} {m} {r} {t} h =
      (div_is t (2 * (half w / m)) x 0 (omega (arith, whole_passes_word (kept_of h))) (omega (arith, h.product))).0

  -- ---- `new`: f and r are the quotient and the remainder of R (R / 2 - m) by m
  module _ (n x f r : ℕ) (a : 2 ^ (w - 3) < n) (b : n < 2 ^ (w - 2)) (h : x < 2 * n) (e : f * (2 * n) + r ≡ (s - 2 * n) * 2 ^ w) (d : r < 2 * n) where
    z : Started s n x f r
    z = started s n x f r (omega (arith, a, eighth_is)) (omega (arith, b, quarter_is)) h (omega (arith, e, times (s - 2 * n) word_is)) d

    start_room : 2 * x * 2 ^ w + 2 * x * f < 2 ^ w * 2 ^ w
    start_room = omega (arith, product_room z.kept, times (2 * x) word_is, times (2 ^ w) word_is, times (2 * s) word_is)

    start_holds : Holds w n x (2 * n) r (2 * x * 2 ^ w + 2 * x * f)
    start_holds =
        holds_of refl (sym z.rest_is ∙ ap (λ i. i % (2 * n)) (sym half_is))
        (subst (λ q. Kept s n x q r (2 * x * 2 ^ w + 2 * x * f)) (sym z.whole_is ∙ ap (λ i. i / (2 * n)) (sym half_is))
        (subst (Kept s n x (2 * s + f) r) (omega (arith, times (2 * x) word_is)) z.kept))

    -- the product in two words, the upper with room
    start_words : (2 * x + 2 * x * f / 2 ^ w) * 2 ^ w + 2 * x * f % 2 ^ w ≡ 2 * x * 2 ^ w + 2 * x * f
    start_words = omega (arith, div_mod (2 * x * f) (2 ^ w) (pow_pos w))

    pub start_upper : 2 * x + 2 * x * f / 2 ^ w < 2 ^ w
    start_upper = mul_lt_cancel (2 * x + 2 * x * f / 2 ^ w) (2 ^ w) (2 ^ w) (omega (arith, start_room, start_words))

    pub start_holds_words : Holds w n x (2 * n) r ((2 * x + 2 * x * f / 2 ^ w) * 2 ^ w + 2 * x * f % 2 ^ w)
    start_holds_words = subst (Holds w n x (2 * n) r) (sym start_words) start_holds

  -- ---- `partial_remainder`
  module _ {m r t : ℕ} (h : Reduces w m r t) where
    k : Kept s (m / 2) (held_of w m t) (half w / m) r t
    k = kept_of h

    pub upper_leaves_room : (u v : ℕ) → u * 2 ^ w + v ≡ t → u + 2 < 2 ^ w
    upper_leaves_room u v e = omega (arith, upper_room k u v (omega (arith, e, times u word_is)), word_is)

    pub held_by_upper : (u v : ℕ) → u * 2 ^ w + v ≡ t → v < 2 ^ w → m * (u + 2) / 2 ^ w ≡ held_of w m t
    held_by_upper u v e l = (λ i. h.twice i * (u + 2) / word_is i) ∙ upper_gives_held k u v (omega (arith, e, times u word_is)) (omega (arith, l, word_is))

    -- ---- `shift_reduce` and `word_reduce`
    step : (i a b : ℕ) → i < w → a * half w + b ≡ t * 2 ^ i → b < half w → Next s (m / 2) (held_of w m t) (half w / m) r (2 ^ i) a b (held_of w m t * 2 ^ i - a * (m / 2))
    step i a b l e d = next k (2 ^ i) a b (omega (arith, e, times a half_is)) (omega (arith, d, half_is)) (pow_mono (omega arith))

    step_room : (i a b : ℕ) → i < w → a * half w + b ≡ t * 2 ^ i → b < half w → a * r + b < 2 ^ w * 2 ^ w
    step_room i a b l e d = omega (arith, (step i a b l e d).room, times (2 ^ w) word_is, times (2 * s) word_is)

    step_holds : (i a b : ℕ) → i < w → a * half w + b ≡ t * 2 ^ i → b < half w → Stepped w i m r t a m r (a * r + b)
    step_holds i a b l e d =
        record {
          quotient = sym (div_is (t * 2 ^ i) (half w) a b d e).0;
          parts = z.parts ∙ ap (λ y. a * (m / 2) + y) (sym y_is);
          holds = subst (λ y. Holds w (m / 2) y m r (a * r + b)) (sym y_is) g;
        }
      where
        z : Next s (m / 2) (held_of w m t) (half w / m) r (2 ^ i) a b (held_of w m t * 2 ^ i - a * (m / 2))
        z = step i a b l e d

        g : Holds w (m / 2) (held_of w m t * 2 ^ i - a * (m / 2)) m r (a * r + b)
        g = holds_of h.twice h.rest z.kept

        y_is : held_of w m (a * r + b) ≡ held_of w m t * 2 ^ i - a * (m / 2)
        y_is = held_is g

    -- ---- `shift_reduce`: the number is split where 2 ^ i takes it past R R / 2
    module _ (i b : ℕ) (l : i < w) (c : b ≡ t % 2 ^ (2 * w - 1 - i) * 2 ^ i) where
      cut : half w ≡ 2 ^ (2 * w - 1 - i) * 2 ^ i
      unfolding half
      cut = sym (pow_diff {a = 2 * w - 1} {b = i} (omega arith))

      d : (t / 2 ^ (2 * w - 1 - i) * 2 ^ (2 * w - 1 - i) + t % 2 ^ (2 * w - 1 - i) ≡ t) × (t % 2 ^ (2 * w - 1 - i) < 2 ^ (2 * w - 1 - i))
      d = div_mod t (2 ^ (2 * w - 1 - i)) (pow_pos (2 * w - 1 - i))

      shift_parts : t / 2 ^ (2 * w - 1 - i) * half w + b ≡ t * 2 ^ i
      shift_parts = omega (arith, times (t / 2 ^ (2 * w - 1 - i)) cut, c, times (2 ^ i) d.0)

      shift_lower : b < half w
      shift_lower = omega (arith, c, cut, times_le (2 ^ i) d.1, pow_pos i)

      pub shift_fits : b < 2 ^ (w + w)
      shift_fits = omega (arith, shift_lower, half_is, pow-add 2 w w, times (2 ^ w) word_is, times (2 * s) word_is)

      pub shift_room : t / 2 ^ (2 * w - 1 - i) * r + b < 2 ^ (w + w)
      shift_room = omega (arith, step_room i (t / 2 ^ (2 * w - 1 - i)) b l shift_parts shift_lower, pow-add 2 w w)

      pub shift_holds : Stepped w i m r t (t / 2 ^ (2 * w - 1 - i)) m r (t / 2 ^ (2 * w - 1 - i) * r + b)
      shift_holds = step_holds i (t / 2 ^ (2 * w - 1 - i)) b l shift_parts shift_lower

    -- ---- `word_reduce`: the upper word is the quotient, and the lower is halved
    module _ (u v : ℕ) (e : u * 2 ^ w + v ≡ t) (l : v < 2 ^ w) where
      halved : Word s t u v
      halved = word_step k u v (omega (arith, e, times u word_is)) (omega (arith, l, word_is))

      word_parts : (u * half w + v / 2 * 2 ^ w ≡ t * 2 ^ (w - 1)) × (v / 2 * 2 ^ w < half w)
      word_parts = (omega (arith, halved.parts, times u half_is, times (v / 2) word_is), omega (arith, halved.below, half_is, times (v / 2) word_is))

      word_room : u * r + v / 2 * 2 ^ w < 2 ^ w * 2 ^ w
      word_room = step_room (w - 1) u (v / 2 * 2 ^ w) (omega arith) word_parts.0 word_parts.1

      word_holds : Stepped w (w - 1) m r t u m r (u * r + v / 2 * 2 ^ w)
      word_holds = step_holds (w - 1) u (v / 2 * 2 ^ w) (omega arith) word_parts.0 word_parts.1

      -- the number in two words, the upper with room
      words : (u * r / 2 ^ w + v / 2) * 2 ^ w + u * r % 2 ^ w ≡ u * r + v / 2 * 2 ^ w
      words = omega (arith, div_mod (u * r) (2 ^ w) (pow_pos w))

      pub word_upper : u * r / 2 ^ w + v / 2 < 2 ^ w
      word_upper = mul_lt_cancel (u * r / 2 ^ w + v / 2) (2 ^ w) (2 ^ w) (omega (arith, words, word_room))

      pub word_holds_words : Stepped w (w - 1) m r t u m r ((u * r / 2 ^ w + v / 2) * 2 ^ w + u * r % 2 ^ w)
      word_holds_words = subst (Stepped w (w - 1) m r t u m r) (sym words) word_holds

  -- two words are split within the upper one
  pub cut_in_upper : (i u v : ℕ) → i < w → v < 2 ^ w → ((u * 2 ^ w + v) / 2 ^ (2 * w - 1 - i) ≡ u / 2 ^ (w - 1 - i)) × ((u * 2 ^ w + v) % 2 ^ (2 * w - 1 - i) ≡ u % 2 ^ (w - 1 - i) * 2 ^ w + v)
  cut_in_upper i u v l o =
      let p : 2 ^ (2 * w - 1 - i) ≡ 2 ^ (w - 1 - i) * 2 ^ w = ap (λ j. 2 ^ j) (omega arith) ∙ pow-add 2 (w - 1 - i) w in
      let d = div_mod u (2 ^ (w - 1 - i)) (pow_pos (w - 1 - i)) in
      div_is (u * 2 ^ w + v) (2 ^ (2 * w - 1 - i)) (u / 2 ^ (w - 1 - i)) (u % 2 ^ (w - 1 - i) * 2 ^ w + v)
      (omega (arith, p, times_le (2 ^ w) d.1, o)) (omega (arith, times (u / 2 ^ (w - 1 - i)) p, times (2 ^ w) d.0))
