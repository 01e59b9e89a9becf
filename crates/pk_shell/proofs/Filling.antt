-- Bytes and numbers that are written behind those that wait.
use Rattle.std.proofs.Common.{◌≡◌, ℕ, ◌+◌, ◌<◌, ◌≤◌, ◌-◌, List, ◌++◌, get_or, length, take, drop, sym, ap, ◌∙◌, append_assoc, arith, length-append, length-drop}
use Rattle.std.specs.List.{flat_map}
use Rattle.std.proofs.Math.Seq.{take-append-add}
use Rattle.std.proofs.lemmas.List.{take-append-le, length-take-le}
use borrow.Rule.Slice.PartMut.{put_mid, post_of}
use Rattle.pk_shell.proofs.Parts.{one_more}

-- a front is kept, and n bytes of what was written behind it
pub front_behind : (i k n : ℕ) (xs ys : List ℕ) → i ≤ length xs → n ≤ length ys → take (i + n) (put_mid i k xs ys) ≡ take i xs ++ take n ys
front_behind i k n xs ys h m =
    ap (λ (j : ℕ). take (j + n) (put_mid i k xs ys)) (sym (length-take-le i xs h))
    ∙ take-append-add (take i xs) (ys ++ post_of i k xs) n
    ∙ ap (λ t. take i xs ++ t) (take-append-le n ys (post_of i k xs) m)

-- what is written up to the end leaves the length as it was
pub length_behind : (i : ℕ) (xs ys : List ℕ) → i ≤ length xs → length ys ≡ length xs - i → length (put_mid i (length xs - i) xs ys) ≡ length xs
length_behind i xs ys h e =
    simp (length-append) (omega (arith, length-take-le i xs h, length-drop i xs, length-drop (length xs - i) (drop i xs), e))

-- one more number is written behind those so far
pub one_behind : {X : Type 0} (out start ys : List ℕ) (f : X → List ℕ) (ns : List X) (i k done n : ℕ) (d : X)
    → take i out ≡ start ++ flat_map f (take done ns) → i ≤ length out → n ≤ length ys → done < length ns
    → take n ys ≡ f (get_or ns done d) → take (i + n) (put_mid i k out ys) ≡ start ++ flat_map f (take (done + 1) ns)
one_behind out start ys f ns i k done n d so_far room within more here =
    front_behind i k n out ys room within
    ∙ ap (λ t. t ++ take n ys) so_far
    ∙ ap (λ t. (start ++ flat_map f (take done ns)) ++ t) here
    ∙ append_assoc start _ _
    ∙ ap (λ t. start ++ t) (one_more f ns done d more)
