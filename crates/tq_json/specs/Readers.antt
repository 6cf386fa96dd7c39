-- The invariant of `Reader`.
use Rattle.std.specs.Prelude.{◌≡◌, None, IsSome, IsTrue}
use Rattle.tq_json.specs.{Plain.{IsAtLexeme, NotBeforeComma, goes_at}, declared.reader.Reader.TheInside.Inside}

pub record IsReader (a : Inside) : Type 0 where
  pub at : IsAtLexeme a.text.now
  pub passed : NotBeforeComma a.place a.text.now
  -- before the rest is given away, there is scratch for it
  pub alone : IsTrue (goes_at a.place) → (a.rest ≡ None) × IsSome a.scratch
