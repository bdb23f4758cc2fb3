-- The map's keys are those of the definition.
use Rattle.std.proofs.Common.{string_bytes, rules, tests, ◌∙◌}
use Rattle.std.proofs.lemmas.Iterator.Consumers.{YieldsList-from_rest}
use Rattle.std.proofs.lemmas.Iterator.Search.{any_from_yields_List}
use Rattle.settings_reader.proofs.TableKeys.{is_other, has_foreign-entries}
use Rattle.settings_reader.proofs.keys.has_foreign.Goals as goal

pub returns : goal.returns
returns c =
    any_from_yields_List (λ key. is_other c.args.names.now (string_bytes key)) _ _ _ c.any.ensures.ran
    (YieldsList-from_rest _ c.keys.ensures.rest)
    (λ x b q k. search (rules, tests))
    ∙ has_foreign-entries c.args.names.now c.args.table.now.entries
