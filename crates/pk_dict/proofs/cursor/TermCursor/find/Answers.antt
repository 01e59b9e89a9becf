-- The group that was chosen, and then word by word.
use Rattle.std.proofs.Common.{arith, rules, sym, ap, subst, ◌∙◌, ◌≡◌, ◌+◌, ℕ, List}
use Rattle.pk_posting.proofs.SourceLemmas.{answered, answered_more, answered_then}
use Rattle.pk_dict.specs.Cursor.{Comes, HasRead, HoldsOf, ReadsAhead, StandsAt}
use Rattle.pk_dict.specs.Order.{less}
use Rattle.pk_dict.specs.Place.{bytes_at}
use Rattle.pk_dict.specs.Reading.{IsPieceAt}
use Rattle.pk_dict.specs.Seeking.{IsToldStart}
use Rattle.pk_dict.proofs.SeekingLaw.{seeks_all, seeks_first, seeks_found, seeks_more, seeks_none}
use Rattle.pk_dict.proofs.Sought.{passing_first, passing_more, spent_all, spent_first, spent_found, spent_more}
use Rattle.pk_dict.proofs.cursor.TermCursor.find.Goals as goal

pub loop-self-init : goal.loop-self-init
loop-self-init g c =
    let left = c.in_ok-start.ensures.left in
    record {
      left = answered left left.faults.ok;
      place = c.begin.ensures.place;
      ahead = c.begin.ensures.ahead;
      fault = c.begin.ensures.fault;
      holds = λ h held. subst (λ x. IsPieceAt (bytes_at (g.S.ByteSource.content c.args.source.now) c.args.self.now.place) x.from x.bytes.items) (sym c.begin.ensures.held) held;
      said = λ h held.
          let start = subst (λ p. IsToldStart (bytes_at (g.S.ByteSource.content c.args.source.now) c.args.self.now.place) p.terms c.args.word.now c.in_ok-start.start.group c.in_ok-start.start.at) (sym c.begin.ensures.place) (c.in_ok-start.ensures.told h) in
          seeks_first _ c.begin.new.self c.args.word.now c.in_ok-start.start.group c.in_ok-start.start.at start c.begin.ensures.read c.begin.ensures.from c.begin.ensures.none;
      at = λ h es n k.
          let b = c.in_ok-start.ensures.at h es k.spells k.count in
          passing_first _ c.begin.new.self es c.args.word.now c.in_ok-start.start.group c.in_ok-start.start.at (c.begin.ensures.at _ c.args.word.now es n k b) b;
      asks = λ h es n k j m few short.
          let b = c.in_ok-start.ensures.at h es k.spells k.count in
          spent_first _ es c.args.word.now c.begin.new.self _ _ (6 + m) c.in_ok-start.start.group c.in_ok-start.start.at c.begin.ensures.read b (c.in_ok-start.ensures.asks j few);
    }

pub loop-self-preserved : goal.loop-self-preserved
loop-self-preserved g c =
    let left = c.in_ok-advance.ensures.left in
    let before = c.loop-self.self in
    let after = c.advance.new.self in
    let i = c.loop-self.invariant in
    record {
      left = answered_more g.met.S.ByteSource.keeps_then i.left left left.faults.ok;
      place = c.in_ok-advance.ensures.place ∙ i.place;
      ahead = subst (λ (m : ℕ). ReadsAhead m after) i.ahead.0 c.in_ok-advance.ensures.ahead;
      fault = c.in_ok-advance.ensures.fault ∙ i.fault;
      holds = λ h held.
          let bytes : bytes_at (g.S.ByteSource.content c.loop-self.source) before.place ≡ bytes_at (g.S.ByteSource.content c.args.source.now) c.args.self.now.place = ap (bytes_at (g.S.ByteSource.content c.loop-self.source)) i.place ∙ ap (λ (l : List ℕ). bytes_at l c.args.self.now.place) (i.left.same h) in
          subst (λ (b : List ℕ). HoldsOf b after) bytes (c.in_ok-advance.ensures.holds h (subst (λ (b : List ℕ). HoldsOf b before) (sym bytes) (i.holds h held)));
      said = λ h held.
          let bytes : bytes_at (g.S.ByteSource.content c.loop-self.source) before.place ≡ bytes_at (g.S.ByteSource.content c.args.source.now) c.args.self.now.place = ap (bytes_at (g.S.ByteSource.content c.loop-self.source)) i.place ∙ ap (λ (l : List ℕ). bytes_at l c.args.self.now.place) (i.left.same h) in
          let read = subst (λ (b : List ℕ). HasRead b before after) bytes (c.in_ok-advance.ensures.said h (subst (λ (b : List ℕ). HoldsOf b before) (sym bytes) (i.holds h held))) in
          seeks_more _ before after c.args.word.now (i.said h held) read c.in_ok-advance.ensures.read c.in_ok-advance.ensures.place (ap (λ (l : List ℕ). less l c.args.word.now) (sym c.deref.ensures.value) ∙ sym c.is_less.ensures ∙ c.if-not-is_less.false);
      at = λ h es n k.
          let p = i.at h es n k in
          let bytes : bytes_at (g.S.ByteSource.content c.loop-self.source) before.place ≡ bytes_at (g.S.ByteSource.content c.args.source.now) c.args.self.now.place = ap (bytes_at (g.S.ByteSource.content c.loop-self.source)) i.place ∙ ap (λ (l : List ℕ). bytes_at l c.args.self.now.place) (i.left.same h) in
          let s = subst (λ (b : List ℕ). StandsAt b after es (before.read + 1)) bytes (c.in_ok-advance.ensures.at h es before.read (subst (λ (b : List ℕ). Comes b before es before.read) (sym bytes) p.comes)) in
          passing_more _ before after es c.args.word.now p s c.in_ok-advance.ensures.read (ap (λ (l : List ℕ). less l c.args.word.now) (sym c.deref.ensures.value) ∙ sym c.is_less.ensures ∙ c.if-not-is_less.false);
      asks = λ h es n k j m few short.
          let p = i.at h es n k in
          let bytes : bytes_at (g.S.ByteSource.content c.loop-self.source) before.place ≡ bytes_at (g.S.ByteSource.content c.args.source.now) c.args.self.now.place = ap (bytes_at (g.S.ByteSource.content c.loop-self.source)) i.place ∙ ap (λ (l : List ℕ). bytes_at l c.args.self.now.place) (i.left.same h) in
          let s = subst (λ (b : List ℕ). StandsAt b after es (before.read + 1)) bytes (c.in_ok-advance.ensures.at h es before.read (subst (λ (b : List ℕ). Comes b before es before.read) (sym bytes) p.comes)) in
          spent_more _ es c.args.word.now before after _ _ _ m (i.asks h es n k j m few short) s c.in_ok-advance.ensures.read (ap (λ (l : List ℕ). less l c.args.word.now) (sym c.deref.ensures.value) ∙ sym c.is_less.ensures ∙ c.if-not-is_less.false) short (c.in_ok-advance.ensures.asks h);
    }

pub returns-then-not-is_less-clause-asks : goal.returns-then-not-is_less-clause-asks
returns-then-not-is_less-clause-asks g c h es n k j m few short =
    let before = c.loop-self.self in
    let after = c.advance.new.self in
    let i = c.loop-self.invariant in
    let p = i.at h es n k in
    let bytes : bytes_at (g.S.ByteSource.content c.loop-self.source) before.place ≡ bytes_at (g.S.ByteSource.content c.args.source.now) c.args.self.now.place = ap (bytes_at (g.S.ByteSource.content c.loop-self.source)) i.place ∙ ap (λ (l : List ℕ). bytes_at l c.args.self.now.place) (i.left.same h) in
    let s = subst (λ (b : List ℕ). StandsAt b after es (before.read + 1)) bytes (c.in_ok-advance.ensures.at h es before.read (subst (λ (b : List ℕ). Comes b before es before.read) (sym bytes) p.comes)) in
    spent_found _ es c.args.word.now before after _ _ _ m (i.asks h es n k j m few short) s short (c.in_ok-advance.ensures.asks h)

pub returns-then-not-is_less-clause-said : goal.returns-then-not-is_less-clause-said
returns-then-not-is_less-clause-said g c h held =
    let before = c.loop-self.self in
    let after = c.advance.new.self in
    let i = c.loop-self.invariant in
    let bytes : bytes_at (g.S.ByteSource.content c.loop-self.source) before.place ≡ bytes_at (g.S.ByteSource.content c.args.source.now) c.args.self.now.place = ap (bytes_at (g.S.ByteSource.content c.loop-self.source)) i.place ∙ ap (λ (l : List ℕ). bytes_at l c.args.self.now.place) (i.left.same h) in
    let read = subst (λ (b : List ℕ). HasRead b before after) bytes (c.in_ok-advance.ensures.said h (subst (λ (b : List ℕ). HoldsOf b before) (sym bytes) (i.holds h held))) in
    seeks_found _ before after c.args.word.now (i.said h held) read c.in_ok-advance.ensures.read c.in_ok-advance.ensures.place (ap (λ (l : List ℕ). less l c.args.word.now) (sym c.deref.ensures.value) ∙ sym c.is_less.ensures ∙ c.if-not-is_less.true)

pub returns-clause-said : goal.returns-clause-said
returns-clause-said g c h held = seeks_all _ c.loop-self.self c.args.word.now (c.loop-self.invariant.said h held) (omega (arith, c.loop-self-test))

pub returns-then-self-eq0-clause-said : goal.returns-then-self-eq0-clause-said
returns-then-self-eq0-clause-said g c h held = seeks_none _ c.args.self.now c.args.word.now (omega (arith, c.if-self-eq0.true))

pub returns-in_err-advance-clause-left : goal.returns-in_err-advance-clause-left
returns-in_err-advance-clause-left g c =
    let left = answered_then g.met.S.ByteSource.keeps_then c.loop-self.invariant.left c.in_err-advance.ensures.left in
    search (rules, left)

pub returns-in_err-advance-clause-ahead : goal.returns-in_err-advance-clause-ahead
returns-in_err-advance-clause-ahead g c = subst (λ (m : ℕ). ReadsAhead m c.advance.new.self) c.loop-self.invariant.ahead.0 c.in_err-advance.ensures.ahead

pub returns-then-not-is_less-clause-ahead : goal.returns-then-not-is_less-clause-ahead
returns-then-not-is_less-clause-ahead g c = subst (λ (m : ℕ). ReadsAhead m c.advance.new.self) c.loop-self.invariant.ahead.0 c.in_ok-advance.ensures.ahead

pub returns-clause-ahead : goal.returns-clause-ahead
returns-clause-ahead g c = c.loop-self.invariant.ahead

pub returns-clause-asks : goal.returns-clause-asks
returns-clause-asks g c h es n k j m few short = spent_all es c.args.word.now c.loop-self.self _ _ m (c.loop-self.invariant.asks h es n k j m few short)
