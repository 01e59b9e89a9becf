-- A short word is told by its fingerprint and its length.
use Rattle.std.proofs.Common.{◌∙◌, sym, refl}
use Rattle.std.proofs.lemmas.Bool.{false≢true}
use Rattle.pk_terms.specs.declared.terms.Entry.{Entry}
use Rattle.pk_terms.proofs.TableLemmas.{same_marks, short_there}
use Rattle.pk_terms.proofs.terms.is_at.Goals as goal

abbrev none : Entry
none = record { fingerprint = 0; start = 0; end = 0 }

pub returns-then-entry-fingerprint : goal.returns-then-entry-fingerprint
returns-then-entry-fingerprint c = (
  λ no. absurd (false≢true no),
  λ there.
      let marks = same_marks c.args.entries.now c.args.text.now c.args.word.now c.args.place none c.requires.within (c.requires.parts c.args.place none c.requires.within) there in
      absurd (c.if-entry-fingerprint.true (marks.0 ∙ sym c.requires.fingerprint)),
)

pub returns-then-entry-word : goal.returns-then-entry-word
returns-then-entry-word c = (
  λ no. absurd (false≢true no),
  λ there.
      let marks = same_marks c.args.entries.now c.args.text.now c.args.word.now c.args.place none c.requires.within (c.requires.parts c.args.place none c.requires.within) there in
      absurd (c.if-entry-word.true marks.1),
)

pub returns-then-word-le-SHORT_BYTES : goal.returns-then-word-le-SHORT_BYTES
returns-then-word-le-SHORT_BYTES c = (
  λ yes. short_there c.args.entries.now c.args.text.now c.args.word.now c.args.place none c.requires.within (c.requires.parts c.args.place none c.requires.within)
      c.requires.bytes c.if-word-le-SHORT_BYTES.true (c.if-entry-fingerprint.false ∙ c.requires.fingerprint) c.if-entry-word.false,
  λ there. refl,
)
