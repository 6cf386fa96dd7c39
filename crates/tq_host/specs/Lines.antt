-- Lines of bytes, each with the line feed that ends it. A part after the lines of a log, from a standing on. What the
-- part replies, what it is afterwards, and what its lines are read as stand first.
use Rattle.std.specs.Prelude.{◌≡◌, ◌⊎◌, ℕ, List, [], ◌∷◌, ◌++◌, ⊤, ◌≢◌, ◌<◌, ◌≤◌, Option, Some, None, length}
pub use Rattle.tq_board.specs.Lines.{HasNoFeed, IsLine}
use Rattle.tq_shape.specs.{declared.part.Entry.Entry, Agrees.{Standing, next_number, state_after_entry}}
use Rattle.tq_host.specs.declared.fault.{ReplayFault.ReplayFault, ReplayFault.TheVariants.{Memory, Wrong, Unreadable}}

-- the lines one behind another; in the list, as in those below, the newest stands first
abbrev pub text_of : List (List ℕ) → List ℕ
text_of [] = []
text_of (line ∷ earlier) = text_of earlier ++ line

abbrev pub AreLines : List (List ℕ) → Type 0
AreLines [] = ⊤
AreLines (line ∷ earlier) = IsLine line × AreLines earlier

-- the text begins with whole lines, and no line feed stands behind them
pub record BeginsWith (text lines : List ℕ) : Type 0 where
  pub rest : List ℕ
  pub parts : text ≡ lines ++ rest
  pub torn : HasNoFeed rest

-- the text is empty, or a line feed is its last byte
abbrev pub EndsWhole : List ℕ → Type 0
EndsWhole text = (text ≡ []) ⊎ ((front : List ℕ) × (text ≡ front ++ 10 ∷ []))

-- ---- replay

module _ {S A R : Type 0} (reply : S → ℕ → A → R) (after : S → ℕ → A → S) (reads : S → List ℕ → Option (Entry A R) → Type 0) where
  -- the line is read as the entry that the part gives there, and the part goes on behind it
  pub record Enters (before : Standing S A R) (line : List ℕ) (now : Standing S A R) : Type 0 where
    pub entry : Entry A R
    pub read : reads before.part line (Some entry)
    pub room : length before.journal < before.limit
    pub legal : entry.reply ≡ reply before.part (next_number before) entry.ask
    pub goes_on : now ≡ state_after_entry after before (next_number before) entry.ask entry.reply

  -- so is each of the lines
  abbrev pub AreEntered : Standing S A R → List (List ℕ) → Standing S A R → Type 0
  AreEntered start [] now = now ≡ start
  AreEntered start (line ∷ earlier) now = (before : Standing S A R) × AreEntered start earlier before × Enters before line now

  -- the text is lines that lead there
  pub record IsLogOf (start : Standing S A R) (text : List ℕ) (now : Standing S A R) : Type 0 where
    pub lines : List (List ℕ)
    pub is : text ≡ text_of lines
    pub whole : AreLines lines
    pub entered : AreEntered start lines now

  -- lines with which the text begins lead there, and then comes this one
  pub record StopsAt (start : Standing S A R) (text : List ℕ) (before : Standing S A R) (line : List ℕ) : Type 0 where
    pub earlier : List ℕ
    pub leads : IsLogOf start earlier before
    pub whole : IsLine line
    pub rest : List ℕ
    pub parts : text ≡ earlier ++ (line ++ rest)

  -- the journal is full, or the line is read as an entry that the part would not have given there
  abbrev pub IsWrongLine : Standing S A R → List ℕ → Type 0
  IsWrongLine before line =
      (before.limit ≤ length before.journal)
      ⊎ ((entry : Entry A R) × reads before.part line (Some entry) × (entry.reply ≢ reply before.part (next_number before) entry.ask))

  -- why the line leads nowhere
  abbrev pub IsLineFault : Standing S A R → List ℕ → ReplayFault → Type 0
  IsLineFault before line Memory = ⊤
  IsLineFault before line (Wrong number) = (number ≡ next_number before) × IsWrongLine before line
  IsLineFault before line (Unreadable number) = (number ≡ next_number before) × reads before.part line None

  -- lines with which the text begins lead to a part, and then comes such a line
  pub record IsReplayFault (start : Standing S A R) (text : List ℕ) (fault : ReplayFault) : Type 0 where
    pub before : Standing S A R
    pub line : List ℕ
    pub stops : StopsAt start text before line
    pub fails : IsLineFault before line fault
