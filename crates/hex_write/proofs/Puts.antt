-- Laws of bytes put into a room that holds them: one byte, none, what a writer placed, and one part behind the other. Assumes nothing.
use Prim.Native.Nat.{ℕ, ◌+◌, ◌≤◌, ◌<◌}
use mathlib.Core.Path.{◌≡◌, sym, ap, ◌∙◌, subst}
use mathlib.Core.List.{List, [], ◌++◌, append_assoc}
use native.Mathlib.Nat.{zero-add}
use native.Mathlib.Omega.{arith}
use lib.ListN.{length, take, drop, length-append, take-append-drop}
use lib.Seq.{take-length, length-take-le, take_at, drop_at, drop-drop}
use borrow.Author.Tests.{le-leb, lt-ltb}
use Rattle.text_numbers.specs.Digits.{glyph_of}
use Rattle.text_numbers.specs.Placed.{Placed}
use Rattle.hex_write.specs.Put.{Put}

pub put_none : (xs : List ℕ) (at : ℕ) → Put xs at [] xs at
put_none xs at =
    let e : at + 0 ≡ at = omega arith in
    record { bytes = sym (ap (λ (n : ℕ). take at xs ++ drop n xs) e ∙ take-append-drop at xs); offset = omega arith }

-- all or nothing, where there is room, is all
pub put_placed : {xs : List ℕ} {at : ℕ} {p xs' : List ℕ} {at' : ℕ} → at + length p ≤ length xs → Placed xs at p xs' at' → Put xs at p xs' at'
put_placed {xs} {at} {p} h w =
    record {
      bytes = simp (le-leb _ _ h) at w.bytes ∙ ap (λ (l : List ℕ). take at xs ++ l ++ drop (at + length p) xs) (take-length p) ∙ append_assoc (take at xs) p (drop (at + length p) xs);
      offset = simp (le-leb _ _ h) at w.offset;
    }

-- the bytes q behind p
pub put_behind : {xs : List ℕ} {at : ℕ} {p ys : List ℕ} {a : ℕ} {q zs : List ℕ} {b : ℕ} → at + length p + length q ≤ length xs
    → Put xs at p ys a → Put ys a q zs b → Put xs at (p ++ q) zs b
put_behind {xs} {at} {p} {ys} {a} {q} {zs} {b} h v w =
    let front : List ℕ = take at xs ++ p in
    let rest : List ℕ = drop (at + length p) xs in
    let size : length front ≡ a = length-append (take at xs) p ∙ omega (arith, length-take-le at xs (omega arith), v.offset) in
    let is : ys ≡ front ++ rest = v.bytes ∙ sym (append_assoc (take at xs) p rest) in
    let ahead : take a ys ≡ front = ap (take a) is ∙ take_at front rest a size in
    let same : at + length p + length q ≡ at + length (p ++ q) = omega (arith, length-append p q) in
    let past : drop (a + length q) ys ≡ drop (at + length (p ++ q)) xs =
    sym (drop-drop (length q) a ys)
    ∙ ap (λ (l : List ℕ). drop (length q) (drop a l)) is
    ∙ ap (drop (length q)) (drop_at front rest a size)
    ∙ drop-drop (length q) (at + length p) xs
    ∙ ap (λ (n : ℕ). drop n xs) same in
    record {
      bytes = w.bytes
          ∙ ap (λ (l : List ℕ). l ++ (q ++ drop (a + length q) ys)) ahead
          ∙ append_assoc (take at xs) p (q ++ drop (a + length q) ys)
          ∙ ap (λ (l : List ℕ). take at xs ++ l) (sym (append_assoc p q (drop (a + length q) ys)) ∙ ap (λ (l : List ℕ). (p ++ q) ++ l) past);
      offset = omega (arith, length-append p q, v.offset, w.offset);
    }

-- four parts from the front on
pub put_parts : {xs : List ℕ} {p ys : List ℕ} {a : ℕ} {q zs : List ℕ} {b : ℕ} {r us : List ℕ} {c : ℕ} {s vs : List ℕ} {d : ℕ}
    → length p + length q + length r + length s ≤ length xs
    → Put xs 0 p ys a → Put ys a q zs b → Put zs b r us c → Put us c s vs d → Put xs 0 (p ++ q ++ r ++ s) vs d
put_parts {p = p} {q = q} {r = r} h v w x y =
    let two : length (p ++ q) ≡ length p + length q = length-append p q in
    let three : length (p ++ q ++ r) ≡ length (p ++ q) + length r = length-append (p ++ q) r in
    put_behind (omega arith) (put_behind (omega arith) (put_behind (omega arith) v w) x) y

-- from the front on
pub put_first : {xs p ys : List ℕ} {a : ℕ} → Put xs 0 p ys a → (ys ≡ p ++ drop (length p) xs) × (a ≡ length p)
put_first {xs} {p} v = (v.bytes ∙ ap (λ (n : ℕ). p ++ drop n xs) (zero-add (length p)), omega (arith, v.offset))

-- the same bytes
pub put_as : {xs : List ℕ} {at : ℕ} {p q ys : List ℕ} {a : ℕ} → p ≡ q → Put xs at p ys a → Put xs at q ys a
put_as {xs} {at} {ys = ys} {a = a} e v = subst (λ (l : List ℕ). Put xs at l ys a) e v

pub lead_glyph : (d : ℕ) → d < 2 → 48 + d ≡ glyph_of d
lead_glyph d l = let h : d < 10 = omega arith in simp (lt-ltb d 10 h)
