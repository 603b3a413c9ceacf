use Rattle.std.proofs.Common.{List, [], ◌∷◌, ◌++◌, length, sym, subst}
use Rattle.mdv_survey.specs.Newest.{HasTable, IsGreatest, IsMarked, IsShown, IsTableIn, ShowsIn}
use Rattle.mdv_survey.specs.Replica.{at_of}
use Rattle.mdv_survey.specs.declared.replica.Replica.{Replica}
use Rattle.mdv_survey.proofs.Newests.{made_of, marked_beside, marked_newer, marked_stay, newer_of, table_beside, table_newer}
use Rattle.mdv_survey.proofs.replica.Finds.add.Goals as goal

-- it shows no table
pub returns-in_default-clause-marked : goal.returns-in_default-clause-marked
returns-in_default-clause-marked c = λ marked.
    subst (λ (rs : List Replica). IsMarked rs c.args.self.now.newest) (sym c.in_ok-push.ensures.ok)
    (marked_beside c.args.self.now.replicas c.args.replica c.args.self.now.newest marked (subst (IsShown c.args.replica.head) c.in_default.is c.requires))

pub returns-in_default-clause-table : goal.returns-in_default-clause-table
returns-in_default-clause-table c = λ g content has shows.
    subst (λ (rs : List Replica). HasTable g content rs c.args.self.now.newest) (sym c.in_ok-push.ensures.ok) (table_beside c.args.self.now.replicas c.args.replica g content c.args.self.now.newest has)

-- its mark isn't greater
pub returns-then-not-is_newer-clause-marked : goal.returns-then-not-is_newer-clause-marked
returns-then-not-is_newer-clause-marked c = λ marked.
    subst (λ (rs : List Replica). IsMarked rs c.args.self.now.newest) (sym c.in_ok-push.ensures.ok)
    (marked_stay c.args.self.now.replicas c.args.replica c.args.self.now.newest c.in-Some.shown c.is_newer.result c.if-not-is_newer.true marked (subst (IsShown c.args.replica.head) c.in-Some.is c.requires) c.is_newer.ensures)

pub returns-then-not-is_newer-clause-table : goal.returns-then-not-is_newer-clause-table
returns-then-not-is_newer-clause-table c = λ g content has shows.
    subst (λ (rs : List Replica). HasTable g content rs c.args.self.now.newest) (sym c.in_ok-push.ensures.ok) (table_beside c.args.self.now.replicas c.args.replica g content c.args.self.now.newest has)

-- it is
pub returns-clause-marked : goal.returns-clause-marked
returns-clause-marked c = λ marked.
    let before = c.args.self.now.replicas in
    let shown = c.in-Some.shown in
    subst (λ (rs : List Replica). IsGreatest rs (made_of shown (length c.as_slice-place.result.now))) (sym c.in_ok-push.ensures.ok)
    (subst (λ (xs : List Replica). IsGreatest (before ++ c.args.replica ∷ []) (made_of shown (length xs))) (sym c.as_slice-place.ensures)
    (marked_newer before c.args.replica c.args.self.now.newest shown marked (subst (IsShown c.args.replica.head) c.in-Some.is c.requires)
    (newer_of c.args.self.now.newest shown.mark c.is_newer.result c.if-not-is_newer.false c.is_newer.ensures)))

pub returns-clause-table : goal.returns-clause-table
returns-clause-table c = λ g content has shows.
    let before = c.args.self.now.replicas in
    let shown = c.in-Some.shown in
    subst (λ (rs : List Replica). IsTableIn g content rs (made_of shown (length c.as_slice-place.result.now))) (sym c.in_ok-push.ensures.ok)
    (subst (λ (xs : List Replica). IsTableIn g content (before ++ c.args.replica ∷ []) (made_of shown (length xs))) (sym c.as_slice-place.ensures)
    (table_newer before c.args.replica g content shown (subst (ShowsIn g (at_of c.args.replica) (content c.args.replica.line.at.drive.0) c.args.replica.head) c.in-Some.is shows)))
