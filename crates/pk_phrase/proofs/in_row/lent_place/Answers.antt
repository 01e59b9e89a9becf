-- The entry at the place is that of the document, and so are the bytes that it leads to.
use Rattle.std.proofs.Common.{◌≡◌, ◌∙◌, ◌+◌, ◌*◌, ◌<◌, ℕ, List, ap, ap₂, drop, length, refl, subst, sym, take, arith}
use Rattle.std.specs.Prelude.{IfSome, IsUtf8, Option}
use Rattle.pk_segment.specs.declared.directory.Directory.{Directory}
use Rattle.pk_segment.specs.Directory.{EntrySays, IsDirectoryOf, doc_in}
use Rattle.pk_segment.proofs.OpeningLemmas.{index_in}
use Rattle.pk_segment.proofs.ReadLemmas.{text_is, utf8_in}
use Rattle.pk_segment.proofs.SegmentLemmas.{text_there}
use Rattle.pk_segment.specs.Opened.{count_of}
use Rattle.pk_phrase.proofs.SaidLemmas.{lies_there}
use Rattle.pk_phrase.specs.Said.{DirectoryRead}
use Rattle.pk_phrase.proofs.in_row.lent_place.Goals as goal

pub returns-clause-lies : goal.returns-clause-lies
returns-clause-lies c = λ bytes docs is of whole.
    let at = c.args.candidate.at in
    let offset = c.text_place-offset.result.0 in
    let len = c.text_place-offset.result.1 in
    let here = subst (λ (o : Option Directory). IfSome o (λ d. IsDirectoryOf d docs 2)) c.in-Some.is whole in
    let lt : at < length docs = omega (arith, c.len.ensures.documents docs 2 here, c.if-at-len.false) in
    let places = c.text_place-offset.ensures.documents docs 2 here in
    let says : EntrySays docs at (doc_in docs at).number offset len = record { number_is = refl; at_is = places.0; len_is = places.1 } in
    let there = text_there bytes docs 2 at (doc_in docs at).number offset len is lt says in
    let start : c.text_start-start.result ≡ 24 + 12 * length docs + offset = c.text_start-start.ensures ∙ ap (λ (n : ℕ). 24 + 12 * n + offset) of.count_is in
    let cut : take len (drop c.text_start-start.result bytes) ≡ (doc_in docs at).text = ap (λ (n : ℕ). take len (drop n bytes)) start ∙ there.1 in
    let number : c.args.candidate.number ≡ (doc_in docs at).number = sym c.if-number.false ∙ c.number.ensures.documents docs 2 here ∙ index_in docs at in
    record {
      inside = omega (arith, start, there.0);
      utf8 = subst (λ (x : List ℕ). IsUtf8 x) (sym cut) (utf8_in docs at lt is.are.utf8);
      same = sym (text_is docs at c.args.candidate.number _ is.are lt number cut);
    }

pub returns-clause-said : goal.returns-clause-said
returns-clause-said c = λ bytes read.
    let s = c.args.search.now.segment.now in
    let here = subst (DirectoryRead bytes s) c.in-Some.is read in
    let numbers = c.text_place-offset.ensures.numbers in
    let cut = ap₂ (λ (n k : ℕ). take n (drop k bytes)) numbers.1 (c.text_start-start.ensures ∙ ap (λ (k : ℕ). 24 + 12 * count_of s + k) numbers.0) in
    lies_there bytes s c.in-Some.directory c.args.candidate.at c.args.candidate.number _ here (omega (arith, c.len.ensures.value, c.if-at-len.false)) (sym c.if-number.false ∙ c.number.ensures.value) cut numbers.1
