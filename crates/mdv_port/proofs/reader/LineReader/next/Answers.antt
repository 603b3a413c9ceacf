use Rattle.std.proofs.Common.{◌≡◌, ◌≤◌, ◌<◌, ◌+◌, ◌-◌, List, ℕ, Option, Some, length, refl, subst, ap, ◌∙◌, arith}
use Rattle.std.proofs.lemmas.Bool.{both_ways}
use Rattle.mdv_port.specs.declared.reader.LineEnd.{LineEnd}
use Rattle.mdv_port.specs.Lines.{bytes_limit, next_line}
use Rattle.mdv_port.specs.Reader.{Reader, to_come, IsAnswer}
use Rattle.mdv_port.proofs.Answering.{answers_end, answers_lines, answers_bytes, answers_long, answers_whole, at_none, at_some, room_of}
use Rattle.mdv_port.proofs.Reading.{turns}
use Rattle.mdv_port.proofs.reader.LineReader.next.Goals as goal

-- the fields as the call began are the reader that contracts see
seen : (shown old new : Reader) (left left' : Option (List ℕ)) (end : LineEnd) → shown ≡ old
    → ((input : List ℕ) → to_come shown.unread left ≡ Some input → IsAnswer (next_line shown.lines shown.bytes input) end shown new input left')
    → (input : List ℕ) → to_come old.unread left ≡ Some input → IsAnswer (next_line old.lines old.bytes input) end old new input left'
seen shown old new left left' end is told =
    subst (λ (r : Reader). (input : List ℕ) → to_come r.unread left ≡ Some input → IsAnswer (next_line r.lines r.bytes input) end r new input left') is told

pub returns-then-not-branch-clause-answer : goal.returns-then-not-branch-clause-answer
returns-then-not-branch-clause-answer g c = seen _ _ _ (g.I.Source.left c.args.source.now) _ _ c.self.view_is (
    λ input is.
    let none : 0 < length input → ⊥ = λ some. both_ways c.in_ok-fill.field-0 c.if-not-branch.true ((c.in_ok-fill.ensures.ended input is).1 some) in
    answers_end _ _ input _ none (c.fill.ensures.same ∙ is)
    )

pub returns-then-lines-eq-MAX_LINES-clause-answer : goal.returns-then-lines-eq-MAX_LINES-clause-answer
returns-then-lines-eq-MAX_LINES-clause-answer g c = seen _ _ _ (g.I.Source.left c.args.source.now) _ _ c.self.view_is (
    λ input is.
    let some : 0 < length input = (c.in_ok-fill.ensures.ended input is).0 c.if-not-branch.false in
    answers_lines _ _ input _ some c.if-lines-eq-MAX_LINES.true refl (c.fill.ensures.same ∙ is)
    )

pub returns-in_default-clause-answer : goal.returns-in_default-clause-answer
returns-in_default-clause-answer g c = seen _ _ _ (g.I.Source.left c.args.source.now) _ _ c.self.view_is (
    λ input is.
    let some : 0 < length input = (c.in_ok-fill.ensures.ended input is).0 c.if-not-branch.false in
    answers_bytes _ _ input _ some c.if-lines-eq-MAX_LINES.false (bytes_limit - c.self.inside.bytes) refl c.self.invariant.1 refl
    (at_none _ input c.in_ok-cut.field-0 _ _ c.in_default.is (c.in_ok-cut.ensures.cuts input (c.fill.ensures.same ∙ is)))
    )

pub returns-then-cut-clause-answer : goal.returns-then-cut-clause-answer
returns-then-cut-clause-answer g c = seen _ _ _ (g.I.Source.left c.args.source.now) _ _ c.self.view_is (
    λ input is.
    let some : 0 < length input = (c.in_ok-fill.ensures.ended input is).0 c.if-not-branch.false in
    let within = room_of (bytes_limit - c.self.inside.bytes) c.in_ok-cut.field-0 c.in-Some.cut c.in-Some.is c.in_ok-cut.ensures.within in
    answers_long _ _ input _ some c.if-lines-eq-MAX_LINES.false c.in-Some.cut (omega (arith, c.self.invariant.1, within)) (ap (λ n. c.self.inside.bytes + n) c.size.ensures) c.cut_line.new.line (omega (arith, c.if-cut.true))
    (at_some _ input c.in_ok-cut.field-0 c.in-Some.cut _ _ c.in-Some.is (c.in_ok-cut.ensures.cuts input (c.fill.ensures.same ∙ is)))
    )

pub returns-clause-answer : goal.returns-clause-answer
returns-clause-answer g c = seen _ _ _ (g.I.Source.left c.args.source.now) _ _ c.self.view_is (
    λ input is.
    let some : 0 < length input = (c.in_ok-fill.ensures.ended input is).0 c.if-not-branch.false in
    let within = room_of (bytes_limit - c.self.inside.bytes) c.in_ok-cut.field-0 c.in-Some.cut c.in-Some.is c.in_ok-cut.ensures.within in
    answers_whole _ _ input _ some c.if-lines-eq-MAX_LINES.false c.in-Some.cut (omega (arith, c.self.invariant.1, within)) (ap (λ n. c.self.inside.bytes + n) c.size.ensures) (omega (arith, c.if-cut.false))
    (at_some _ input c.in_ok-cut.field-0 c.in-Some.cut _ _ c.in-Some.is (c.in_ok-cut.ensures.cuts input (c.fill.ensures.same ∙ is)))
    )

-- how many lines were handed out before
before : (shown old : Reader) → shown ≡ old → shown.lines ≡ old.lines
before shown old is = ap (λ (r : Reader). r.lines) is

-- and that the bytes were within their limit
held : (shown old : Reader) → shown ≡ old → shown.bytes ≤ bytes_limit → old.bytes ≤ bytes_limit
held shown old is = subst (λ (r : Reader). r.bytes ≤ bytes_limit) is

none_more : (lines old : ℕ) → lines ≡ old → lines ≡ old + 0
none_more lines old is = omega arith

one_more : (lines old : ℕ) → lines ≡ old → lines + 1 ≡ old + 1
one_more lines old is = ap (λ n. n + 1) is

pub returns-then-not-branch-clause-reads : goal.returns-then-not-branch-clause-reads
returns-then-not-branch-clause-reads g c =
    turns _ _ _ _ _ (held _ _ c.self.view_is c.self.invariant.1) (none_more _ _ (before _ _ c.self.view_is)) (returns-then-not-branch-clause-answer g c)

pub returns-then-lines-eq-MAX_LINES-clause-reads : goal.returns-then-lines-eq-MAX_LINES-clause-reads
returns-then-lines-eq-MAX_LINES-clause-reads g c =
    turns _ _ _ _ _ (held _ _ c.self.view_is c.self.invariant.1) (none_more _ _ (before _ _ c.self.view_is)) (returns-then-lines-eq-MAX_LINES-clause-answer g c)

pub returns-in_default-clause-reads : goal.returns-in_default-clause-reads
returns-in_default-clause-reads g c =
    turns _ _ _ _ _ (held _ _ c.self.view_is c.self.invariant.1) (none_more _ _ (before _ _ c.self.view_is)) (returns-in_default-clause-answer g c)

pub returns-then-cut-clause-reads : goal.returns-then-cut-clause-reads
returns-then-cut-clause-reads g c =
    turns _ _ _ _ _ (held _ _ c.self.view_is c.self.invariant.1) (one_more _ _ (before _ _ c.self.view_is)) (returns-then-cut-clause-answer g c)

pub returns-clause-reads : goal.returns-clause-reads
returns-clause-reads g c = turns _ _ _ _ _ (held _ _ c.self.view_is c.self.invariant.1) (one_more _ _ (before _ _ c.self.view_is)) (returns-clause-answer g c)
