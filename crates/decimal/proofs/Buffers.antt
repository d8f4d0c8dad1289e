-- Laws of bytes put into a buffer: what is before and after them, two runs of bytes one after the other, one byte stored and a part lent. Bytes put at
-- a place are the kit's `paste` of all of them. Assumes nothing.
use mathlib.Core.List.{List, [], ◌∷◌, ◌++◌, append_assoc}
use mathlib.Core.Path.{◌≡◌, refl, sym, ap, ap₂, ◌∙◌}
use Prim.Native.Nat.{ℕ, ◌+◌, ◌≤◌, ◌<◌}
use native.Mathlib.Nat.{le_refl, zero-add, add-zero, add_assoc}
use native.Mathlib.Numerals.{add-one}
use native.Mathlib.Omega.{arith}
use borrow.Rule.Slice.PartMut.{put_mid}
use lib.ListN.{length, take, drop, set, length-append, take-append-drop}
use lib.Seq.{take-length, drop-drop, set_split, paste, length-paste, take-paste, drop-paste}
use Rattle.decimal.specs.Buffers.{put, Put}

module _ (at : ℕ) (a buffer : List ℕ) (room : at + length a ≤ length buffer) where
  pasted : put at a buffer ≡ paste buffer at a (length a)
  pasted =
      sym (append_assoc (take at buffer) a (drop (at + length a) buffer))
      ∙ ap (λ (l : List ℕ). (take at buffer ++ l) ++ drop (at + length a) buffer) (sym (take-length a))

  starts : at ≤ length buffer
  starts = omega arith

  put_length : length (put at a buffer) ≡ length buffer
  put_length = ap length pasted ∙ length-paste buffer at a (length a) room (le_refl (length a))

  take_of_put : take (at + length a) (put at a buffer) ≡ take at buffer ++ a
  take_of_put =
      ap (take (at + length a)) pasted
      ∙ take-paste buffer at a (length a) starts (le_refl (length a))
      ∙ ap (λ (l : List ℕ). take at buffer ++ l) (take-length a)

  -- what lies after the bytes is as it was
  drop_of_put : (k : ℕ) → drop (at + length a + k) (put at a buffer) ≡ drop (at + length a + k) buffer
  drop_of_put k =
      sym (drop-drop k (at + length a) (put at a buffer))
      ∙ ap (drop k) (ap (drop (at + length a)) pasted ∙ drop-paste buffer at a (length a) starts (le_refl (length a)))
      ∙ drop-drop k (at + length a) buffer

-- bytes put after bytes
put_put : (at : ℕ) (a b buffer : List ℕ) → at + length a + length b ≤ length buffer →
    put (at + length a) b (put at a buffer) ≡ put at (a ++ b) buffer
put_put at a b buffer room =
    let fits : at + length a ≤ length buffer = omega arith in
    let ends : at + length a + length b ≡ at + length (a ++ b) = simp length-append (add_assoc at (length a) (length b)) in
    ap₂ (λ (x y : List ℕ). x ++ (b ++ y)) (take_of_put at a buffer fits) (drop_of_put at a buffer fits (length b))
    ∙ append_assoc (take at buffer) a (b ++ drop (at + length a + length b) buffer)
    ∙ ap (λ (l : List ℕ). take at buffer ++ l) (sym (append_assoc a b (drop (at + length a + length b) buffer)))
    ∙ ap (λ (n : ℕ). take at buffer ++ ((a ++ b) ++ drop n buffer)) ends

pub put_then : {at e f : ℕ} {a b x y z : List ℕ} → Put at a x y e → Put e b y z f → at + length a + length b ≤ length x → Put at (a ++ b) x z f
put_then {at} {e} {f} {a} {b} {x} {y} {z} p q room = record {
  all = q.all ∙ ap₂ (λ (n : ℕ) (l : List ℕ). put n b l) p.ends p.all ∙ put_put at a b x room;
  ends = simp length-append (omega (arith, p.ends, q.ends));
}

-- the buffer keeps its length
pub put_keeps : {at e : ℕ} {a x y : List ℕ} → Put at a x y e → at + length a ≤ length x → length y ≡ length x
put_keeps {at} {e} {a} {x} p room = ap length p.all ∙ put_length at a x room

-- nothing is put
pub put_none : (at : ℕ) (x : List ℕ) → Put at [] x x at
put_none at x = record {
  all = sym (ap (λ (n : ℕ). take at x ++ drop n x) (add-zero at) ∙ take-append-drop at x);
  ends = sym (add-zero at);
}

-- one byte is stored
pub put_byte : (at b : ℕ) (x : List ℕ) → at < length x → Put at (b ∷ []) x (set x at b) (at + 1)
put_byte at b x h = record {
  all = set_split x at b h ∙ ap (λ (n : ℕ). take at x ++ (b ∷ drop n x)) (sym (add-one at));
  ends = refl;
}

-- a part is lent, and as many bytes come back
pub put_part : (at k : ℕ) (x part : List ℕ) → length part ≡ k → Put at part x (put_mid at k x part) (at + k)
put_part at k x part e = record {
  all = ap (λ (l : List ℕ). take at x ++ (part ++ l)) (drop-drop k at x ∙ ap (λ (n : ℕ). drop (at + n) x) (sym e));
  ends = ap (λ (n : ℕ). at + n) (sym e);
}

-- bytes are put at the start
pub put_start : (a x : List ℕ) → Put 0 a x (a ++ drop (length a) x) (length a)
put_start a x = record { all = ap (λ (n : ℕ). a ++ drop n x) (sym (zero-add (length a))); ends = sym (zero-add (length a)) }

-- and they stand within the buffer
pub put_start_fits : (bytes buffer : List ℕ) → length bytes ≤ length (put 0 bytes buffer)
put_start_fits bytes buffer = omega (arith, length-append bytes (drop (0 + length bytes) buffer))
