-- The flags of a query.
use Rattle.std.specs.Prelude.{false}
use Rattle.data_model.specs.declared.query_ignore_params.QueryIgnoreParams.{QueryIgnoreParams}

-- Nothing is ignored.
abbrev pub no_flags : QueryIgnoreParams
no_flags = record { ignore_incomplete_payloads = false; ignore_empty_payloads = false }
