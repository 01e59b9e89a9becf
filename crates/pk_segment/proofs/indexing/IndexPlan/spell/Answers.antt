-- The parts, one behind the other, are the segment.
use Rattle.std.proofs.Common.{◌∙◌, ◌++◌, ℕ, List, arith, inr, refl, ap, subst, sym}
use Rattle.pk_model.specs.Terms.{terms_of}
use Rattle.pk_dict.specs.declared.writer.DictWriter.{DictWriter}
use Rattle.pk_dict.specs.Writer.{HasAdded}
use Rattle.pk_segment.specs.Indexed.{dictionary, items_of, postings}
use Rattle.pk_segment.specs.Spelling.{docs_of}
use Rattle.pk_segment.proofs.PlanLemmas.{assembled, header_same, header_size, lists_all}
use Rattle.pk_segment.proofs.indexing.IndexPlan.spell.Goals as goal

pub put_front-requires : goal.put_front-requires
put_front-requires c =
    let docs = docs_of c.args.documents.now in
    let plan = c.requires.plan in
    omega (arith, header_size docs c.args.self.header plan.header_is, plan.header_is.texts_is, plan.fits)

pub returns : goal.returns
returns c =
    let docs = docs_of c.args.documents.now in
    let plan = c.requires.plan in
    let added = subst (λ (w : DictWriter). HasAdded w (items_of docs)) (sym c.take_lists.ensures.dictionary) plan.words.added in
    record {
      is_kind = inr refl;
      are = plan.are;
      fits = plan.fits;
      same = c.in_ok-extend_from_slice-2.ensures.items
          ∙ ap (λ (l : List ℕ). c.extend_from_slice.new.self.items ++ l) (c.deref-2.ensures.value ∙ c.in_ok-dictionary.ensures docs added)
          ∙ ap (λ (l : List ℕ). l ++ dictionary docs) (c.in_ok-extend_from_slice.ensures.items ∙ ap (λ (l : List ℕ). c.put_front.new.out.items ++ l) (c.deref.ensures.value ∙ plan.words.lists_are c.in-Some.lists (sym c.take_lists.ensures.lists ∙ c.in-Some.is) ∙ lists_all docs (terms_of docs) refl))
          ∙ ap (λ (l : List ℕ). (l ++ postings docs) ++ dictionary docs) c.in_ok-put_front.ensures.spelled
          ∙ assembled docs _ _ c.in_ok-out.ensures.items (header_same docs c.args.self.header plan.header_is);
    }

pub size-requires : goal.size-requires
size-requires c =
    let plan = c.requires.plan in
    omega (arith, header_size (docs_of c.args.documents.now) c.args.self.header plan.header_is, plan.fits)
