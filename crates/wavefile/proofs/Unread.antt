-- Nothing after the first "data" chunk is used, but the count of bytes. Assumes nothing.
use mathlib.Core.Bool.{Bool, true, false, ◌&&◌, cond}
use mathlib.Core.List.{List, [], ◌∷◌}
use mathlib.Core.Option.{Option, none, some}
use mathlib.Core.Path.{◌≡◌, refl, sym, ap, ◌∙◌}
use Prim.Native.Nat.{ℕ, zero, suc, ◌+◌, ◌-◌, ◌≤◌}
use native.Mathlib.Omega.{arith}
use borrow.Author.Tests.{leb-true, leb-false}
use lib.IntN.{ℤ}
use lib.ListN.{length, take, drop, length-drop}
use lib.Seq.{take_all}
use Rattle.wavefile.specs.Bytes.{data_name}
use Rattle.wavefile.specs.Chunks.{named, size, padded, whole, kept, walk, found, to_end, data_end}
use Rattle.wavefile.specs.Outcomes.{wav_read}
use Rattle.wavefile.proofs.Alike.{part_alike, named_alike, size_alike, body_alike, kept_alike, whole_alike}
use Rattle.wavefile.proofs.Outcomes.{same_outcome}
use Rattle.wavefile.proofs.Walks.{walk_data}

-- ---- the end of the walk lies past what is skipped, or at the end of the bytes
past_skipped : (s : ℕ) (l : List ℕ) → s ≤ length l → s ≤ to_end s l
unfolding to_end
past_skipped zero l h = omega arith
past_skipped (suc s) [] h = absurd (omega arith)
past_skipped (suc s) (b ∷ l) h = omega (arith, past_skipped s l (omega arith))

at_end : (s : ℕ) (l : List ℕ) → length l ≤ s → length l ≤ to_end s l
unfolding to_end
at_end s [] h = omega arith
at_end zero (b ∷ l) h = absurd (omega arith)
at_end (suc s) (b ∷ l) h = omega (arith, at_end s l (omega arith))

-- ---- the walk over bytes that are the same to its end
pub walk_alike : (f : Option (List ℕ)) (s : ℕ) (a b : List ℕ) → length a ≡ length b → take (to_end s a) a ≡ take (to_end s a) b → walk f s a ≡ walk f s b
unfolding walk to_end
walk_alike f s [] [] n t = refl
walk_alike f s [] (y ∷ b) n t = absurd (omega arith)
walk_alike f s (x ∷ a) [] n t = absurd (omega arith)
walk_alike f (suc s) (x ∷ a) (y ∷ b) n t = walk_alike f s a b (omega arith) (ap (drop 1) t)
walk_alike f zero (x ∷ a) (y ∷ b) n t = by_tests (whole l) (named data_name l) refl refl t (λ r. walk_alike (kept f l) next a b (omega arith) r)
  where
    l : List ℕ
    l = x ∷ a

    m : List ℕ
    m = y ∷ b

    next : ℕ
    next = 7 + padded (size l)

    by_tests : (w d : Bool) → whole l ≡ w → named data_name l ≡ d → take (suc (cond (w && d) next (to_end next a))) l ≡ take (suc (cond (w && d) next (to_end next a))) m →
        (take (to_end next a) a ≡ take (to_end next a) b → walk (kept f l) next a ≡ walk (kept f l) next b) → walk f 0 l ≡ walk f 0 m
    by_tests false d w e t rest =
        let all : length l ≤ suc (to_end next a) = omega (arith, at_end next a (omega (arith, leb-false (8 + padded (size l)) (length l) w))) in
        ap (walk f 0) (sym (take_all (suc (to_end next a)) l all) ∙ t ∙ take_all (suc (to_end next a)) m (omega arith))
    by_tests true true w e t rest =
        let k = suc next in
        let h : 8 + padded (size l) ≤ k = omega arith in
        walk_data f l w e
        ∙ ap (λ (x : List ℕ). some (record { format = f; content = x })) (body_alike k l m t h)
        ∙ sym (walk_data f m (sym (whole_alike l m n (size_alike k l m t h)) ∙ w) (sym (named_alike k l m t h data_name) ∙ e))
    by_tests true false w e t rest =
        let k = suc (to_end next a) in
        let room = leb-true (8 + padded (size l)) (length l) w in
        let h : 8 + padded (size l) ≤ k = omega (arith, past_skipped next a (omega (arith, room))) in
        rw (
          w,
          e,
          sym (whole_alike l m n (size_alike k l m t h)) ∙ w,
          sym (named_alike k l m t h data_name) ∙ e,
          sym (size_alike k l m t h),
          sym (kept_alike k l m t h f),
        )
        (rest (ap (drop 1) t))

-- two files of one length that have the same bytes up to the end of the first "data" chunk of one of them, its pad byte included, are read alike
pub unread : (a b : List ℕ) (buffer : List ℤ) → length a ≡ length b → take (data_end a) a ≡ take (data_end a) b → wav_read a buffer ≡ wav_read b buffer
unfolding found data_end
unread a b buffer n t =
    let e = data_end a in
    let r = to_end 0 (drop 12 a) in
    let lengths : length (drop 12 a) ≡ length (drop 12 b) = simp length-drop (ap (λ (k : ℕ). k - 12) n) in
    same_outcome a b buffer
    (rw (part_alike e 0 4 a b t (omega arith), part_alike e 4 4 a b t (omega arith), part_alike e 8 4 a b t (omega arith), n))
    (walk_alike none 0 (drop 12 a) (drop 12 b) lengths (part_alike e 12 r a b t (omega arith)))
