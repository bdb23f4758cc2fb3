-- The vector's values are those of the definition.
use Rattle.std.proofs.Common.{is_some, rules, tests, ◌∙◌}
use Rattle.std.proofs.lemmas.Iterator.{YieldsList-from_slice}
use Rattle.std.proofs.lemmas.Iterator.Search.{all_from_yields_List}
use Rattle.toml.specs.Data.{as_table}
use Rattle.toml.specs.View.{view}
use Rattle.settings_reader.proofs.Values.{list_all-tables}
use Rattle.settings_reader.proofs.arrays.are_tables.Goals as goal

pub returns : goal.returns
returns c =
    all_from_yields_List (λ value. is_some (as_table (view value))) _ _ _ c.all.ensures.ran
    (YieldsList-from_slice c.args.values.now c.iter.ensures.rest)
    (λ x b q k. search (rules, tests))
    ∙ list_all-tables c.args.values.now
