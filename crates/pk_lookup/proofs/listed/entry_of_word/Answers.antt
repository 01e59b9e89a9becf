-- The entry is that of the same word before, or what the dictionary says.
use Rattle.std.proofs.Common.{◌∙◌, [], arith, get_or, length, refl, sym, subst, List, ℕ}
use Rattle.std.specs.Prelude.{IfOk}
use Rattle.pk_plan.specs.Words.{texts}
use Rattle.pk_segment.specs.Indexed.{items_of}
use Rattle.pk_segment.specs.Listing.{ListedAs}
use Rattle.pk_lookup.proofs.RepeatLemmas.{text_or, texts_long}
use Rattle.pk_lookup.specs.Said.{SaysOf}
use Rattle.pk_lookup.proofs.listed.entry_of_word.Goals as goal

-- a word that the filter rules out is none of the dictionary's
pub returns-then-rules_out-clause-entry : goal.returns-then-rules_out-clause-entry
returns-then-rules_out-clause-entry g c = λ honest docs is at has are.
    let words = texts c.args.asked.now.words.now in
    let long = texts_long c.args.asked.now.words.now in
    sym (c.rules_out.ensures.lacks (items_of docs) (get_or words (length c.args.known.now) []) has (c.args.asked.now.are_hashes.each (length c.args.known.now) _ (omega (arith, c.requires, long))) c.if-rules_out.true)

pub returns-clause-entry : goal.returns-clause-entry
returns-clause-entry g c = λ honest docs is at has are.
    subst (λ (word : List ℕ). ListedAs docs word c.look_up_word.result) (c.as_bytes.ensures.value ∙ text_or c.args.asked.now.words.now (length c.args.known.now) (record { ref_ptr = (0, 0); now = [] }) refl) (c.look_up_word.ensures.entry honest docs is at)

pub returns-then-rules_out-clause-said : goal.returns-then-rules_out-clause-said
returns-then-rules_out-clause-said g c = λ honest none says. absurd (let no = c.rules_out.ensures.none none in cc)

pub returns-clause-said : goal.returns-clause-said
returns-clause-said g c = λ honest none says.
    subst (λ (word : List ℕ). IfOk c.look_up_word.result (SaysOf (g.S.ByteSource.content c.args.source.now) c.args.dict.now.lies word))
    (c.as_bytes.ensures.value ∙ text_or c.args.asked.now.words.now (length c.args.known.now) (record { ref_ptr = (0, 0); now = [] }) refl) (c.look_up_word.ensures.said honest)
