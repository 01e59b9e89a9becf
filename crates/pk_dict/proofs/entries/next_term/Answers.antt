-- The rest of a term is no longer than the term.
use Rattle.std.proofs.Common.{arith, ap, sym, subst, ◌∙◌, ◌≡◌, ◌≤◌, ◌+◌, List, ℕ, Ok, Err, cond, length, take, drop}
use Rattle.std.proofs.lemmas.Result.{err_from_is_err_and}
use Rattle.std.proofs.lemmas.List.{length-append, length-take, length-drop}
use Rattle.pk_dict.specs.declared.entry.Entry.{Entry}
use Rattle.pk_posting.specs.declared.fault.ReadFault.TheVariants.{Memory}
use Rattle.pk_dict.specs.Place.{bytes_at}
use Rattle.pk_dict.specs.Reading.{head_at, number_at}
use Rattle.pk_dict.proofs.Coming.{same_made, term_made}
use Rattle.pk_dict.proofs.Parts.{length_bytes_at}
use Rattle.pk_dict.proofs.entries.next_term.Goals.{then-first, else-first+in_ok-kept}
use Rattle.pk_dict.proofs.entries.next_term.Goals as goal

pub returns-clause-asks : goal.returns-clause-asks
returns-clause-asks g c h =
    let content = g.S.ByteSource.content c.head.new.source in
    let B : List ℕ = bytes_at content c.args.place in
    let rest : List ℕ = drop c.in_ok-head.head.rest B in
    let first : g.S.ByteSource.asked c.if-first.source ≤ g.S.ByteSource.asked c.args.source.now + 1 = elim c.if-first.branch [
      | then-first w ↦ omega (arith, ap g.S.ByteSource.asked w.source-is)
      | else-first+in_ok-kept w ↦ omega (arith, ap g.S.ByteSource.asked w.source-is, w.in_ok-kept.ensures.left.asks)
    ] in
    let size : length (g.S.ByteSource.content c.if-first.source) ≡ length (g.S.ByteSource.content c.args.source.now) = elim c.if-first.branch [
      | then-first w ↦ ap (λ s. length (g.S.ByteSource.content s)) w.source-is
      | else-first+in_ok-kept w ↦ omega (arith, ap (λ s. length (g.S.ByteSource.content s)) w.source-is, w.in_ok-kept.ensures.left.size)
    ] in
    let long = ap (λ (l : List ℕ). length l) (c.in_ok-append.ensures.value h) in
    omega (
      arith,
      first,
      c.in_ok-head.ensures.left.asks,
      c.in_ok-append.ensures.asks,
      long,
      length-append c.truncate.new.self.items (take c.in_ok-head.head.size rest),
      length-take c.in_ok-head.head.size rest,
      length-drop c.in_ok-head.head.rest B,
      length_bytes_at content c.args.place (omega (arith, size, c.in_ok-head.ensures.left.size, c.requires.0)),
      c.in_ok-head.ensures.inside,
    )

pub returns-in_err-append-clause-full : goal.returns-in_err-append-clause-full
returns-in_err-append-clause-full g c h err t is =
    let content = g.S.ByteSource.content in
    let before : List ℕ = c.args.term.now.items in
    let B : List ℕ = bytes_at (content c.args.source.now) c.args.place in
    let kept = c.if-first.kept in
    let head = c.in_ok-head.head in
    let same : content c.if-first.source ≡ content c.args.source.now = elim c.if-first.branch [
      | then-first w ↦ ap content w.source-is
      | else-first+in_ok-kept w ↦ ap content w.source-is ∙ w.in_ok-kept.ensures.left.same h
    ] in
    let first : cond c.args.first (Ok (0, c.args.at)) (number_at B c.args.at) ≡ Ok kept = elim c.if-first.branch [
      | then-first w ↦ rw w.if-first.true (ap Ok (sym w.kept-is))
      | else-first+in_ok-kept w ↦ rw w.if-first.false (w.in_ok-kept.ensures.value h ∙ ap Ok (sym w.kept-is))
    ] in
    let there : head_at B kept.1 ≡ Ok head = subst (λ (b : List ℕ). head_at (bytes_at b c.args.place) kept.1 ≡ Ok head) same (c.in_ok-head.ensures.value h) in
    let made = term_made B c.args.first c.args.at before kept head first there (omega (arith, c.if-len-kept.false)) in
    let whole = ap (λ (x : List ℕ × Entry × ℕ). length x.0) (same_made _ t (sym made ∙ is)) in
    let found = err_from_is_err_and c.from_residual-in_err-append.result c.from_residual-in_err-append.ensures.1 in
    let here = sym found.1 ∙ err in
    let fault : found.0 ≡ Memory = cc in
    let full = c.in_err-append.ensures.full (ap Err (sym found.2 ∙ fault)) in
    omega (
      arith,
      full,
      whole,
      c.truncate.ensures.capacity,
      ap (λ (l : List ℕ). length l) c.truncate.ensures.items,
      length-append (take kept.0 before) (take head.size (drop head.rest B)),
      length-take head.size (drop head.rest B),
      length-drop head.rest B,
      length_bytes_at (content c.args.source.now) c.args.place c.requires.0,
      c.in_ok-head.ensures.inside,
    )
