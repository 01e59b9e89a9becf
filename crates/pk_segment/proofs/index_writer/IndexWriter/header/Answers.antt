-- The lengths of the parts make that of the segment.
use Rattle.std.proofs.Common.{◌≡◌, ◌∙◌, List, length, refl, ap, arith}
use Rattle.pk_dict.specs.Dictionary.{spelling as dictionary_spelling}
use Rattle.pk_model.specs.Collection.{Doc}
use Rattle.pk_model.specs.Terms.{terms_of}
use Rattle.pk_segment.specs.Indexed.{dictionary, items_of}
use Rattle.pk_segment.proofs.PlanLemmas.{front_of, lists_all, size_sum}
use Rattle.pk_segment.proofs.index_writer.IndexWriter.header.Goals as goal

dictionary_long : (docs : List Doc) → length (dictionary_spelling (items_of docs)) ≡ length (dictionary docs)
unfolding dictionary
dictionary_long docs = refl

pub returns-then-size-from-clause-header : goal.returns-then-size-from-clause-header
returns-then-size-from-clause-header c = λ docs has count front.
    let lists = has.postings_are ∙ ap length (lists_all docs (terms_of docs) refl) in
    omega (
      arith,
      c.if-size-from.true,
      c.from.ensures,
      c.from-2.ensures,
      c.from-3.ensures,
      size_sum docs c.args.front c.args.self.now.postings c.size-words.result front lists
          (c.size-words.ensures (items_of docs) has.added),
    )

pub returns-clause-header : goal.returns-clause-header
returns-clause-header c = λ docs has count front.
    let lists = has.postings_are ∙ ap length (lists_all docs (terms_of docs) refl) in
    let words = c.size-words.ensures (items_of docs) has.added in (
      record {
        kind_is = refl;
        count_is = count;
        texts_is = omega (arith, front, front_of docs, count);
        postings_is = lists;
        dictionary_is = omega (arith, c.if-size-from.false, c.from.ensures, c.from-2.ensures, c.from-3.ensures, words, dictionary_long docs);
        terms_is = has.terms_are;
      },
      omega (
        arith,
        c.if-size-from.false,
        c.from.ensures,
        c.from-2.ensures,
        c.from-3.ensures,
        size_sum docs c.args.front c.args.self.now.postings c.size-words.result front lists words,
      ),
    )
