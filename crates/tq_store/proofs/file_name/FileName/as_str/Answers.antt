use Rattle.std.{specs.Str.IsUtf8, proofs.Common.rules}
use Rattle.tq_store.proofs.Padded.{IsUtf8-name, succeeds}
use Rattle.tq_store.proofs.file_name.FileName.as_str.Goals as goal

pub unwrap-requires : goal.unwrap-requires
unwrap-requires c = succeeds _ _ (IsUtf8 c.as_bytes.result.now) _ c.from_utf8.ensures.cases (IsUtf8-name c.as_bytes.result.now (search rules))
