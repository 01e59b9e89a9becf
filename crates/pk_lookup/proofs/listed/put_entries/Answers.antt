-- The source was only read so far.
use Rattle.std.proofs.Common.{◌≡◌, ◌∙◌, ◌+◌, ◌∷◌, [], ap, arith, rules, get_or, length, map, sym, subst, take, List, ℕ}
use Rattle.std.proofs.lemmas.List.{length-append}
use Rattle.pk_plan.specs.Words.{texts}
use Rattle.pk_dict.specs.Dictionary.{entry_of}
use Rattle.pk_segment.specs.Indexed.{items_of}
use Rattle.pk_segment.specs.Spelling.{IndexSpells}
use Rattle.pk_lookup.proofs.ListLemmas.{entries_more}
use Rattle.pk_lookup.proofs.RepeatLemmas.{texts_long}
use Rattle.std.specs.Prelude.{Option}
use Rattle.pk_dict.specs.declared.entry.Entry.{Entry}
use Rattle.pk_lookup.proofs.SaidLemmas.{says_more}
use Rattle.pk_lookup.specs.Said.{SaysOf, SaysOfEach}
use Rattle.pk_lookup.proofs.listed.put_entries.Goals as goal

pub loop-place-preserved : goal.loop-place-preserved
loop-place-preserved g c =
    let before = c.loop-place.invariant in
    let words = texts c.args.asked.now.words.now in
    let known = c.deref.result.now in
    let count : length known ≡ c.loop-place._place = ap length c.deref.ensures.value ∙ before.long in
    record {
      left = search rules;
      damage = c.in_ok-entry.ensures.damage ∙ before.damage;
      long = ap length c.in-Ok.ensures.items ∙ length-append c.loop-place.known.items (c.in_ok-entry.entry ∷ []) ∙ ap (λ (n : ℕ). n + 1) before.long;
      entries = λ h docs index of has. (
          let here = subst (λ (x : List ℕ). IndexSpells x docs) (sym (before.left.same h)) index in
          let are = c.deref.ensures.value ∙ before.entries h docs index of has ∙ ap (λ (n : ℕ). map (entry_of (items_of docs)) (take n words)) (sym count) in
          entries_more docs c.loop-place.known.items c.push.new.self.items words c.loop-place._place c.in_ok-entry.entry (let long = texts_long c.args.asked.now.words.now in omega (arith, long))
          (before.entries h docs index of has) c.in-Ok.ensures.items
          (c.in_ok-entry.ensures.entry h docs here of has are ∙ ap (λ (n : ℕ). entry_of (items_of docs) (get_or words n [])) count));
      says = λ honest none.
          let same = before.left.same honest in
          let each = before.says honest none in
          let lies = c.args.dict.now.lies in
          let content = g.S.ByteSource.content c.args.source.now in
          let here = subst (λ (es : List (Option Entry)). SaysOfEach content lies words es) (sym c.deref.ensures.value) each in
          let one = subst (λ (x : List ℕ). SaysOf x lies (get_or words (length known) []) c.in_ok-entry.entry) same
          (c.in_ok-entry.ensures.said honest none (subst (λ (x : List ℕ). SaysOfEach x lies words known) (sym same) here)) in
          says_more content lies words c.loop-place.known.items c.push.new.self.items (length known) c.in_ok-entry.entry (ap length (sym c.deref.ensures.value)) c.in-Ok.ensures.items each one;
    }
