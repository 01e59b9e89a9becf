-- What is held of a word is what the dictionary has of it.
use Rattle.std.proofs.Common.{arith, refl, sym, ap, subst, ◌∙◌, ◌≡◌, ◌<◌, ◌+◌, ◌-◌, ◌%◌, ◌++◌, ℕ, List, length, take, drop, Ok, true, cond, eqb}
use Rattle.std.proofs.lemmas.Bool.{eq-eqb, ne_eqb}
use Rattle.std.proofs.lemmas.List.{length-append, take_rest}
use Rattle.std.proofs.lemmas.Result.{err_from_is_err_and}
use Rattle.pk_dict.specs.declared.entry.Entry.{Entry}
use Rattle.pk_dict.specs.Order.{less}
use Rattle.pk_dict.specs.Reading.{IsPieceAt, number_at}
use Rattle.pk_dict.specs.Words.{word_at}
use Rattle.pk_dict.proofs.Coming.{same_made, word_made}
use Rattle.pk_dict.proofs.Pieces.{rest_near}
use Rattle.pk_dict.proofs.ahead.Held.word.Goals.{After-extend_from_slice, then-index-eq0, else-index-eq0+in-Some, else-index-gt0-via-then-index-gt0+else-not-is_less, else-index-gt0-via-else-index-gt0}
use Rattle.pk_dict.proofs.ahead.Held.word.Goals as goal

-- what follows the bytes that it keeps
abbrev rest_in : ℕ → ℕ → ℕ → List ℕ → List ℕ
rest_in start from size piece = take (from - start + size - (from - start)) (drop (from - start) piece)

-- the word that stands there
word_there : (c : After-extend_from_slice) (bytes : List ℕ) → IsPieceAt bytes c.args.self.now.from c.args.self.now.bytes.items
    → word_at bytes c.args.spot.index c.args.word.now.items c.args.spot.at
    ≡ Ok (take c.if-index-eq0.kept.0 c.args.word.now.items ++ rest_in c.args.self.now.from c.in-Some-head_in.head.rest c.in-Some-head_in.head.size c.as_slice-piece.result.now, c.in-Some-head_in.head.entry, c.in-Some-head_in.head.next)
word_there c bytes whole =
    let word : List ℕ = c.args.word.now.items in
    let index : ℕ = c.args.spot.index in
    let at : ℕ = c.args.spot.at in
    let start : ℕ = c.args.self.now.from in
    let piece : List ℕ = c.as_slice-piece.result.now in
    let p = subst (λ (l : List ℕ). IsPieceAt bytes start l) (sym c.as_slice-piece.ensures.value) whole in
    let head = c.in-Some-head_in.head in
    let kept = c.if-index-eq0.kept in
    let inside = c.in-Some-head_in.ensures.inside in
    let first : cond (eqb (index % 16) 0) (Ok (0, at)) (number_at bytes at) ≡ Ok kept = elim c.if-index-eq0.branch [
      | then-index-eq0 w ↦ rw (eq-eqb _ _ w.if-index-eq0.true) (ap Ok (sym w.kept-is))
      | else-index-eq0+in-Some w ↦ rw (ne_eqb _ _ w.if-index-eq0.false) (w.in-Some.ensures.value bytes p ∙ ap Ok (sym w.kept-is))
    ] in
    let size : head.rest - start + head.size - (head.rest - start) ≡ head.size = omega arith in
    let rest : List ℕ = rest_in start head.rest head.size piece in
    let is : rest ≡ take head.size (drop head.rest bytes) = ap (λ (n : ℕ). take n (drop (head.rest - start) piece)) size ∙ rest_near bytes start head.rest head.size piece p inside.0 (omega (arith, inside.1)) in
    let more : 0 < index → less (drop kept.0 word) rest ≡ true = λ some. elim c.else-index-gt0.branch [
      | else-index-gt0-via-then-index-gt0+else-not-is_less w ↦ ap (λ (l : List ℕ). less l rest) (sym (take_rest word kept.0)) ∙ ap (λ (l : List ℕ). less (take (length l - kept.0) (drop kept.0 l)) rest) (sym w.deref.ensures.value) ∙ sym w.is_less.ensures ∙ w.if-not-is_less.false
      | else-index-gt0-via-else-index-gt0 w ↦ absurd (omega (arith, some, w.if-index-gt0.false))
    ] in
    word_made bytes index at word kept head rest (take kept.0 word ++ rest) first (c.in-Some-head_in.ensures.value bytes p) (omega (arith, c.if-len-kept.false)) is more refl

pub returns-clause-value : goal.returns-clause-value
returns-clause-value c bytes whole =
    let rest : List ℕ = rest_in c.args.self.now.from c.in-Some-head_in.head.rest c.in-Some-head_in.head.size c.as_slice-piece.result.now in
    let made = c.in_ok-extend_from_slice.ensures.items ∙ ap (λ (l : List ℕ). l ++ rest) c.truncate.ensures.items in
    subst (λ (l : List ℕ). word_at bytes c.args.spot.index c.args.word.now.items c.args.spot.at ≡ Ok (l, c.in-Some-head_in.head.entry, c.in-Some-head_in.head.next)) (sym made)
    (word_there (goal.at.returns-clause-value c).After-extend_from_slice bytes whole)

pub returns-in_err-extend_from_slice-clause-full : goal.returns-in_err-extend_from_slice-clause-full
returns-in_err-extend_from_slice-clause-full c bytes whole =
    let word : List ℕ = c.args.word.now.items in
    let head = c.in-Some-head_in.head in
    let rest : List ℕ = rest_in c.args.self.now.from head.rest head.size c.as_slice-piece.result.now in
    let there = word_there (goal.at.returns-in_err-extend_from_slice-clause-full c).After-extend_from_slice bytes whole in
    let found = err_from_is_err_and c.from_residual.result c.from_residual.ensures.1 in
    rw found.1 (λ t is.
    let whole = ap (λ (x : List ℕ × Entry × ℕ). length x.0) (same_made _ t (sym there ∙ is)) in
    omega (
      arith,
      c.in_err-extend_from_slice.ensures.full,
      c.truncate.ensures.capacity,
      c.truncate.new.self.ok,
      ap (λ (l : List ℕ). length l) c.truncate.ensures.items,
      whole,
      length-append (take c.if-index-eq0.kept.0 word) rest,
    ))
