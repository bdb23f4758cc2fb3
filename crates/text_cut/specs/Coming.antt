-- The spans that come with a replacement.
use Rattle.std.specs.Prelude.{◌++◌, List}
use Rattle.std.specs.Option.{option_to_list}
use Rattle.edit_base.specs.declared.rows.NewSpan.{NewSpan}
use Rattle.text_cut.specs.declared.coming.Coming.{Coming}

-- in order
abbrev pub all_coming : Coming → List NewSpan
all_coming coming = coming.spans.now ++ option_to_list coming.region
