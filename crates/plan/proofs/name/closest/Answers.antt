use Rattle.std.proofs.Common.{unwrap_or, ap, ◌∙◌, rules, tests}
use Rattle.std.proofs.lemmas.Iterator.{YieldsList-from_slice, YieldsList-from_map}
use Rattle.std.proofs.lemmas.Iterator.Consumers.{reduce_from_yields_List}
use Rattle.std.proofs.lemmas.List.Folds.{max_of_map}
use Rattle.plan.specs.declared.verb.Verb.{Verb}
use Rattle.plan.specs.Names.{agree}
use Rattle.plan.specs.Verbs.{word}
use Rattle.plan.proofs.Words.{closest-within}
use Rattle.plan.proofs.name.closest.Goals as goal

pub returns-clause-value : goal.returns-clause-value
returns-clause-value c =
    let vs = c.args.verbs.now in
    let common = λ (v : Verb). agree (word v) c.args.text.now in
    c.unwrap_or.ensures ∙ ap (λ o. unwrap_or o 0) (reduce_from_yields_List _ c.map.result _ c.max.ensures.ran (YieldsList-from_map _ common (YieldsList-from_slice vs cc) c.map.ensures.closure (λ x b q k. search (rules, tests)))) ∙ max_of_map common vs

pub returns-clause-within : goal.returns-clause-within
returns-clause-within c = rw (returns-clause-value c) (closest-within c.args.verbs.now c.args.text.now)
