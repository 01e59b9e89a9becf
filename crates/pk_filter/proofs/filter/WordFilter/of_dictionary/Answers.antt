-- One word more passes; at the end all do.
use Rattle.std.proofs.Common.{◌≡◌, ◌∙◌, Bool, List, Ok, ℕ, ap, arith, length, refl, rules, subst, sym}
use Rattle.std.proofs.lemmas.Result.{err_from_is_err_and}
use Rattle.pk_posting.proofs.SourceLemmas.{answered_more}
use Rattle.pk_dict.specs.Cursor.{StandsAt}
use Rattle.pk_dict.specs.Dictionary.{DictSpells, Item}
use Rattle.pk_dict.specs.Place.{bytes_at}
use Rattle.pk_dict.specs.Said.{GoesOn}
use Rattle.pk_dict.proofs.SaidLaw.{first_said, stands_said}
use Rattle.pk_filter.specs.Filter.{Passes}
use Rattle.pk_filter.specs.Hashed.{hashed}
use Rattle.pk_filter.proofs.WordLemmas.{has_items, has_more, has_none, has_words, said_then}
use Rattle.pk_filter.proofs.filter.WordFilter.of_dictionary.Given as given
use Rattle.pk_filter.proofs.filter.WordFilter.of_dictionary.Goals as goal
use Rattle.pk_filter.proofs.filter.WordFilter.of_dictionary.Goals.{After-next}

-- A STEP of the cursor.
module _ (g : given.Over) (c : goal.After-next g) (h : g.S.ByteSource.honest) where
  abbrev bytes : List ℕ
  bytes = bytes_at (g.S.ByteSource.content c.words.source) c.words.words.place

  same : bytes ≡ bytes_at (g.S.ByteSource.content c.args.source.now) c.args.place
  same = ap (λ (x : List ℕ). bytes_at x c.words.words.place) (c.words.invariant.left.same h) ∙ ap (bytes_at (g.S.ByteSource.content c.args.source.now)) c.words.invariant.place

  stands : (es : List Item) → DictSpells (bytes_at (g.S.ByteSource.content c.args.source.now) c.args.place) es → length es ≡ c.args.place.terms → StandsAt bytes c.words.words es c.words.words.read
  stands es spells count = subst (λ (b : List ℕ). StandsAt b c.words.words es c.words.words.read) (sym same) (stands_said _ es c.words.words spells (count ∙ ap (λ p. p.terms) (sym c.words.invariant.place)) (c.words.invariant.said h))

pub words-init : goal.words-init
words-init g c = record {
  left = search (rules);
  place = c.open-words.ensures.place;
  sound = c.open-words.ensures.sound;
  long = search (rules);
  said = λ h. first_said _ _ c.open-words.ensures.first;
  read = λ h. has_none _ _ _ c.in_ok-filter.filter c.open-words.ensures.first.read;
}

pub words-preserved : goal.words-preserved
words-preserved g c =
    let a = (goal.at.words-preserved g c).After-next in
    let before = c.words.invariant in
    let next = c.in_ok-next.ensures in
    let left = next.left before.sound in
    let filter = c.add.new.self in
    let here = subst (Passes filter) (c.of.ensures ∙ ap hashed c.word.ensures) c.add.ensures.has in
    let more = subst (GoesOn c.words.words _) c.if-branch.true next.goes in
    let said = λ (h : g.S.ByteSource.honest). said_then c.in_ok-next.field-0 (same g a h) (before.said h) (λ held is. next.said h held (ap (λ (b : Bool). Ok b) is)) (next.holds h) next.goes next.place (next.sound refl) next.room in
    record {
      left = answered_more g.met.S.ByteSource.keeps_then before.left left left.faults.ok;
      place = next.place ∙ before.place;
      sound = next.sound refl;
      long = omega (arith, c.add.ensures.blocks, before.long, filter.full, c.words.filter.full);
      said = said;
      read = λ h. has_more _ c.args.place c.words.words _ c.words.filter filter (before.read h) (said h) (next.place ∙ before.place) more c.add.ensures.keeps here;
    }

pub returns-in_err-next-clause-words : goal.returns-in_err-next-clause-words
returns-in_err-next-clause-words g c h es spells count =
    let p = err_from_is_err_and c.from_residual-in_err-next.result c.from_residual-in_err-next.ensures.1 in
    let a = (goal.at.returns-in_err-next-clause-words g c).After-next in
    rw (p.1, p.2) (c.in_err-next.ensures.at h es c.words.words.read (stands g a h es spells count))

pub returns-clause-read : goal.returns-clause-read
returns-clause-read g c h =
    let before = c.words.invariant in
    let end = subst (GoesOn c.words.words _) c.if-branch.false c.in_ok-next.ensures.goes in
    has_words _ c.args.place _ c.words.filter c.requires.0 (end.1 ∙ ap (λ p. p.terms) before.place) (before.read h)

pub returns-clause-words : goal.returns-clause-words
returns-clause-words g c h es spells count = has_items _ c.args.place c.words.filter es c.requires.0 spells count (returns-clause-read g c h)
