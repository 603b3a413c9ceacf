use Rattle.std.proofs.Common.{◌≡◌, ◌-◌, ◌++◌, ◌∷◌, List, [], length, refl, subst, sym, rules}
use Rattle.mdv_text.specs.declared.token.Token.{Token}
use Rattle.mdv_text.proofs.Tokens.{SplitSoFar, split_more, split_order}
use Rattle.mdv_text.proofs.token.split_ascii.Goals as goal

pub loop-word-preserved : goal.loop-word-preserved
loop-word-preserved c =
    let end = length c.args.line.now - length c.in-Some.behind.now in
    let token : Token = record { start = end - length c.in-Some.word.now; end = end } in
    let items : c.push.new.self.items ≡ c.loop-word.tokens.items ++ token ∷ [] = search rules in
    subst (λ (ts : List Token). SplitSoFar c.args.line.now c.in-Some.behind.now ts) (sym items) (
    split_more c.args.line.now c.loop-word.rest.now c.in-Some.word.now c.in-Some.behind.now c.loop-word.tokens.items token c.loop-word.invariant c.in-Some.ensures.word refl refl
    )

pub returns-clause-in_order : goal.returns-clause-in_order
returns-clause-in_order c = split_order _ _ _ c.loop-word.invariant
