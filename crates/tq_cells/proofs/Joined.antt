-- The receipts of one pass more.
use Rattle.std.proofs.Common.{◌≡◌, List, [], ◌∷◌, ◌++◌, sym, ◌∙◌, ap, append_assoc, append-nil}
use Rattle.tq_cells.specs.Passes.{Seen, receipts_of}

pub receipts_snoc : {A R : Type 0} (ps : List (Seen A R)) (p : Seen A R) → receipts_of (ps ++ p ∷ []) ≡ receipts_of ps ++ p.receipts
receipts_snoc [] p = append-nil p.receipts
receipts_snoc (q ∷ ps) p = ap (λ r. q.receipts ++ r) (receipts_snoc ps p) ∙ sym (append_assoc q.receipts (receipts_of ps) p.receipts)
