use Rattle.std.proofs.Common.{◌≡◌, ◌<◌, ℕ, List, Result, length, sym, subst}
use Rattle.mdv_items.specs.declared.gather.GatherFault.{GatherFault}
use Rattle.mdv_run.specs.Below.{Engine, IsItem, LinesMoment, Moments, Tale, line, tab_text}
use Rattle.mdv_run.specs.Calls.{TextCalls}
use Rattle.mdv_run.specs.Promise.{IsWorkOf, LineEnds, LineTells}
use Rattle.mdv_run.proofs.Answering.{stays_else}
use Rattle.mdv_run.proofs.session.answer_item.Goals as goal

-- no block was written but those that a line may write with a text of the item
abbrev ItemWorks : Engine → Result (List ℕ) GatherFault → Tale → Tale → Type 0
ItemWorks engine shown s m = (text : List ℕ) → IsItem text shown → IsWorkOf engine text s m

pub returns-in-Ok-clause-moments : goal.returns-in-Ok-clause-moments
returns-in-Ok-clause-moments g c = λ text is more.
    let same : c.in-Ok.line.now ≡ text = subst (IsItem text) c.in-Ok.ensures.text is in
    subst (λ (s : List ℕ). Moments (LinesMoment c.args.engine.now.host (line s more) c.args.engine.now.state) (g.B.Shelf.tale c.args.bench.now) (g.B.Shelf.tale c.answer.new.bench)) same (c.answer.ensures.moments more)

pub returns-in-Ok-clause-stays : goal.returns-in-Ok-clause-stays
returns-in-Ok-clause-stays g c = stays_else g.B.Shelf _ _ _ _ _ (IsWorkOf c.args.engine.now c.in-Ok.line.now) (ItemWorks c.args.engine.now c.args.reader.now.item) _ _
    (λ tells text is. subst (λ (x : List ℕ). LineTells g.B.Shelf c.args.engine.now x c.args.bench.now c.answer.new.bench) (subst (IsItem text) c.in-Ok.ensures.text is) tells)
    (λ s m works text is. subst (λ (x : List ℕ). IsWorkOf c.args.engine.now x s m) (subst (IsItem text) c.in-Ok.ensures.text is) works) c.answer.ensures.stays

pub returns-in-Ok-clause-answer : goal.returns-in-Ok-clause-answer
returns-in-Ok-clause-answer g c =
    let up = c.answer.ensures.answer in
    record {
      cause = up.cause;
      same = up.same;
      well = up.well;
      begun = up.begun;
      counted = λ n calls. (let same : c.in-Ok.line.now ≡ calls.0 = subst (IsItem calls.0) c.in-Ok.ensures.text calls.1 in up.counted n (subst (λ (s : List ℕ). TextCalls c.args.engine.now.host s n) (sym same) calls.2));
    }

-- a block with too many bytes
pub returns-in-Err-TooMany-clause-moments : goal.returns-in-Err-TooMany-clause-moments
returns-in-Err-TooMany-clause-moments g c = λ text is more.
    let many = subst (IsItem text) (rw c.in-Err-TooMany.field-0-is at c.in-Err-TooMany.ensures.fault) is in
    subst (λ (s : List ℕ). Moments (LinesMoment c.args.engine.now.host (line s more) c.args.engine.now.state) (g.B.Shelf.tale c.args.bench.now) (g.B.Shelf.tale c.refuse_tab.new.bench)) (sym many.1) (c.refuse_tab.ensures.moments many.0 more)

pub returns-in-Err-TooMany-clause-end : goal.returns-in-Err-TooMany-clause-end
returns-in-Err-TooMany-clause-end g c = λ text is.
    let many = subst (IsItem text) (rw c.in-Err-TooMany.field-0-is at c.in-Err-TooMany.ensures.fault) is in
    subst (λ (s : List ℕ). LineEnds g.B.Shelf c.args.bench.now c.refuse_tab.new.bench c.args.engine.now.host s c.args.engine.now.state c.refuse_tab.new.engine.state c.refuse_tab.result) (sym many.1) (c.refuse_tab.ensures.end many.0 many.2)

pub returns-in-Err-TooMany-clause-stays : goal.returns-in-Err-TooMany-clause-stays
returns-in-Err-TooMany-clause-stays g c = stays_else g.B.Shelf _ _ _ _ _ (λ s m. (lines : List ℕ) → 65536 < length lines → IsWorkOf c.args.engine.now (tab_text lines) s m) (ItemWorks c.args.engine.now c.args.reader.now.item) _ _
    (λ tells text is.
    let many = subst (IsItem text) (rw c.in-Err-TooMany.field-0-is at c.in-Err-TooMany.ensures.fault) is in
    subst (λ (x : List ℕ). LineTells g.B.Shelf c.args.engine.now x c.args.bench.now c.refuse_tab.new.bench) (sym many.1) (tells many.0 many.2))
    (λ s m works text is.
    let many = subst (IsItem text) (rw c.in-Err-TooMany.field-0-is at c.in-Err-TooMany.ensures.fault) is in
    subst (λ (x : List ℕ). IsWorkOf c.args.engine.now x s m) (sym many.1) (works many.0 many.2)) c.refuse_tab.ensures.stays

-- an item that memory was wanting for
pub returns-in-Err-Memory-clause-stays : goal.returns-in-Err-Memory-clause-stays
returns-in-Err-Memory-clause-stays g c =
    stays_else g.B.Shelf _ _ _ _ _ (λ s m. (text : List ℕ) → Unit {0} → IsWorkOf c.args.engine.now text s m) (ItemWorks c.args.engine.now c.args.reader.now.item) _ _ (λ tells text is. tells text tt) (λ s m works text is. works text tt) c.refuse_unread.ensures.stays
