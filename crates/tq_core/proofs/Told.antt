-- A told copy is that of a commit, or was never written.
use Rattle.std.proofs.Common.{◌≡◌, ℕ, suc, ◌≤◌, ◌<◌, Bool, true, false, cond, eqb, List, [], ◌∷◌, length, Option, Some, refl, sym, ap, subst, ◌∙◌, ◌⊎◌, inl, inr, arith}
use Rattle.std.{proofs.lemmas.Bool.{and_parts, eqb-true}, specs.Prelude.{◌==◌, ◌&&◌}}
use Rattle.tq_store.specs.declared.write.Write.{Write}
use Rattle.tq_asks.specs.declared.ask.{CitedVote.CitedVote, HeldLock.HeldLock, Verdict.Verdict, WorkAsk.WorkAsk}
use Rattle.tq_asks.specs.Verdicts.{IsCited}
use Rattle.tq_asks.specs.declared.ask.Verdict.TheVariants as verdicts
use Rattle.tq_asks.specs.declared.ask.WorkAsk.TheVariants as work
use Rattle.tq_desk.specs.{declared.ask.DeskAsk.DeskAsk, declared.ask.DeskReply.DeskReply, DeskStep.cited_votes}
use Rattle.tq_desk.specs.DeskJournal.{DeskBounds, DeskEntry, IsLegalDesk, final, Commit, with_commit, commits, IsWritten, DeskLaws, IsShown}
use Rattle.tq_desk.proofs.DeskFinal.{commit-cases, commit-old}
use Rattle.tq_desk.specs.declared.ask.DeskAsk.TheVariants as asks
use Rattle.tq_desk.specs.declared.ask.DeskReply.TheVariants as replies
use Rattle.tq_evidence.specs.{declared.op.Op.Op, declared.vote.Vote.Vote, Evidence.is_write}
use Rattle.tq_shape.{specs.Journal.Has, proofs.Places.{at-before, at-bound, at-old, at-same, any-Has, Has-map}}
use Rattle.tq_node.specs.NodeJournal.{NodeEntry, IsLegalNode, inner, TellsAt, YesAt, InnerAt, DecisionAt, HasWrite}
use Rattle.tq_node.specs.NodeLaws.{NodeLaws, HasOrigin}
use Rattle.tq_core.proofs.Worlds.{Event, AtNode, AtDesk, node_journal, desk_journal, IsRun, legal_nodes, legal_desk, founded_inner, founded_decision, founded_commits}
use Rattle.tq_coterie.specs.Coterie.{is_quorum}

-- a vote that a Commit's verdict cites
pub cited-vote : (votes : List Vote) (s n : ℕ) → IsCited (verdicts.Commit (cited_votes votes)) s n → (vote : Vote) × Has votes vote × (vote.server ≡ s) × (vote.number ≡ n)
cited-vote votes s n h =
    let a = any-Has (λ (v : CitedVote). v.server == s && v.number == n) (cited_votes votes) h in
    let p = and_parts (eqb (a.0).server s) (eqb (a.0).number n) a.2 in
    let m = Has-map (λ (vote : Vote). record { server = vote.server; number = vote.number }) votes a.0 a.1 in
    (m.0, m.1, ap (λ (v : CitedVote). v.server) m.2 ∙ eqb-true _ _ p.0, ap (λ (v : CitedVote). v.number) m.2 ∙ eqb-true _ _ p.1)

tells-bound : (K : List NodeEntry) (p : ℕ) (f : List ℕ) (v : ℕ) (c : List ℕ) → TellsAt K p f v c → p ≤ length K
tells-bound K p f v c (inl g) = at-bound K p _ g.2
tells-bound K p f v c (inr g) = at-bound K p _ g

-- the writes of a Prepare that an entry's ask has inside, where the entry is a Yes
same_writes : (K : List NodeEntry) (n t u : ℕ) (writes answered : List Write) (held : List _) (yes_at : YesAt K n t held answered) → InnerAt K n (work.Prepare u writes) → yes_at.asked ≡ writes
same_writes K n t u writes answered held yes_at at =
    let e = at-same K n _ _ yes_at.is_there at.is_there in
    let i : Path (Option WorkAsk) (Some (work.Prepare t yes_at.asked)) (Some (work.Prepare u writes)) = ap (λ (x : NodeEntry). inner x.ask) e ∙ at.is_inner in
    cc

abbrev pub IsTold : List Commit → List ℕ → ℕ → List ℕ → Type 0
IsTold list file version content = ((version ≡ 0) × (content ≡ [])) ⊎ IsWritten list file version content

pub told_later : (a : DeskAsk) (r : DeskReply) (list : List Commit) (f : List ℕ) (v : ℕ) (c : List ℕ) → IsTold list f v c → IsTold (with_commit a r list) f v c
told_later a r list f v c (inl z) = inl z
told_later a r list f v c (inr w) = inr (record { commit = w.commit; is_there = commit-old a r list w.commit w.is_there; op = w.op; has_op = w.has_op; writes = w.writes; on_file = w.on_file; of_version = w.of_version; of_content = w.of_content })

module _ (bounds : DeskBounds) (nodes : NodeLaws) (desk : DeskLaws bounds) where
  -- the evidence of each commit is good
  pub shown_commits : (D : List DeskEntry) → IsLegalDesk bounds D → (c : Commit) → Has (commits D) c → IsShown (is_quorum bounds.levels) c.ops c.votes
  shown_commits [] legal c h = absurd h
  shown_commits (e ∷ D) legal c h = by (commit-cases e.ask e.reply (commits D) c h) (λ k. shown_commits D legal.1 c k)
    where
      by : ((i : ℕ) × (e.ask ≡ asks.Commit c.txn c.ops c.votes) × (e.reply ≡ replies.Committed i)) ⊎ Has (commits D) c
          → (Has (commits D) c → IsShown (is_quorum bounds.levels) c.ops c.votes) → IsShown (is_quorum bounds.levels) c.ops c.votes
      by (inl p) ih =
          let same : e ≡ record { ask = asks.Commit c.txn c.ops c.votes; reply = replies.Committed p.0 } = λ i. record { ask = p.1 i; reply = p.2 i } in
          (desk.fresh D c.txn c.ops c.votes p.0 (subst (λ (x : DeskEntry). IsLegalDesk bounds (x ∷ D)) same legal)).1
      by (inr q) ih = ih q

  -- a decision's verdict that cites a vote is the record of a commit
  pub decided : (world : List Event) → IsRun bounds world → (s d t : ℕ) (v : Verdict) → DecisionAt (node_journal world s) d t v
      → final (desk_journal world) t ≡ Some v
  decided world run s d t v h =
      let f = founded_decision bounds world run s d t v h in
      desk.told (desk_journal world) (legal_desk bounds world run) f.0 t v f.1

  -- a write of a commit's vote, of which the server has the ask inside an entry, is a write op of the commit
  of_commit : (world : List Event) → IsRun bounds world → (s : ℕ) (e : NodeEntry) → IsLegalNode s (e ∷ node_journal world s) → (t n : ℕ) (writes : List Write) (file : List ℕ) (version : ℕ) (content : List ℕ)
      → (c : Commit) → Has (commits (desk_journal world)) c → IsShown (is_quorum bounds.levels) c.ops c.votes → (vote : Vote) → Has c.votes vote → YesAt (node_journal world s) n c.txn vote.held vote.writes
      → InnerAt (e ∷ node_journal world s) n (work.Prepare t writes) → HasWrite writes file version content → IsWritten (commits (desk_journal world)) file version content
  of_commit world run s e legal t n writes file version content c has_c shown vote has_vote at_s asked has =
      let at_new : YesAt (e ∷ node_journal world s) n c.txn vote.held vote.writes = record { asked = at_s.asked; is_there = at-old e (node_journal world s) n _ at_s.is_there } in
      let echo = nodes.echoes s (e ∷ node_journal world s) legal n c.txn vote.held vote.writes at_new in
      let same : vote.writes ≡ writes = echo ∙ same_writes (e ∷ node_journal world s) n c.txn t writes vote.writes vote.held at_new asked in
      let write : Write = record { file = file; version = version; content = content } in
      op_of write (shown.of_op vote has_vote write (subst (λ (w : List Write). Has w write) (sym same) has.is_there))
    where
      op_of : (write : Write) → (op : Op) × Has c.ops op × (is_write op ≡ true) × (write ≡ record { file = op.file; version = op.version; content = op.content })
          → IsWritten (commits (desk_journal world)) write.file write.version write.content
      op_of write o =
          record {
            commit = c;
            is_there = has_c;
            op = o.0;
            has_op = o.1;
            writes = o.2;
            on_file = sym (ap (λ (w : Write). w.file) o.3);
            of_version = sym (ap (λ (w : Write). w.version) o.3);
            of_content = sym (ap (λ (w : Write). w.content) o.3);
          }

  pub YesAt-moved : (world : List Event) (r s m n t : ℕ) (held : List HeldLock) (writes : List Write) → r ≡ s → m ≡ n → YesAt (node_journal world r) m t held writes → YesAt (node_journal world s) n t held writes
  YesAt-moved world r s m n t held writes p q y =
      subst (λ (k : ℕ). YesAt (node_journal world s) k t held writes) q (subst (λ (k : ℕ). YesAt (node_journal world k) m t held writes) p y)

  -- what a write of a cited vote is
  of_vote : (world : List Event) → IsRun bounds world → (s : ℕ) (e : NodeEntry) → IsLegalNode s (e ∷ node_journal world s) → (d t : ℕ) (v : Verdict) (n : ℕ) (writes : List Write) (file : List ℕ) (version : ℕ) (content : List ℕ)
      → DecisionAt (node_journal world s) d t v → IsCited v s n → InnerAt (e ∷ node_journal world s) n (work.Prepare t writes) → HasWrite writes file version content
      → IsWritten (commits (desk_journal world)) file version content
  of_vote world run s e legal d t v n writes file version content decision is_cited asked has =
      by_commit (desk.committed (desk_journal world) (legal_desk bounds world run) t v (decided world run s d t v decision) s n is_cited)
    where
      by_vote : (c : Commit) → Has (commits (desk_journal world)) c → (vote : Vote) × Has c.votes vote × (vote.server ≡ s) × (vote.number ≡ n) → IsWritten (commits (desk_journal world)) file version content
      by_vote c has_c k =
          of_commit world run s e legal t n writes file version content c has_c (shown_commits (desk_journal world) (legal_desk bounds world run) c has_c) k.0 k.1
          (YesAt-moved world (k.0).server s (k.0).number n c.txn (k.0).held (k.0).writes k.2 k.3 ((founded_commits bounds world run c has_c).each_vote k.0 k.1)) asked has

      by_commit : (c : Commit) × Has (commits (desk_journal world)) c × (c.txn ≡ t) × (v ≡ verdicts.Commit (cited_votes c.votes)) → IsWritten (commits (desk_journal world)) file version content
      by_commit k = by_vote k.0 k.1 (cited-vote (k.0).votes s n (subst (λ (x : Verdict). IsCited x s n) k.3 is_cited))

  inner_before : (e : NodeEntry) (K : List NodeEntry) (n : ℕ) (a : WorkAsk) → n < suc (length K) → InnerAt (e ∷ K) n a → InnerAt K n a
  inner_before e K n a l at = record { entry = at.entry; is_there = at-before e K n at.entry at.is_there l; is_inner = at.is_inner }

  abbrev pub AreTold : List Event → Type 0
  AreTold world = (s p : ℕ) (f : List ℕ) (v : ℕ) (c : List ℕ) → TellsAt (node_journal world s) p f v c → IsTold (commits (desk_journal world)) f v c

  pub from_origin : (world : List Event) → IsRun bounds world → AreTold world → (s : ℕ) (e : NodeEntry) → IsLegalNode s (e ∷ node_journal world s)
      → (p : ℕ) (f : List ℕ) (v : ℕ) (c : List ℕ) → p ≤ suc (length (node_journal world s)) → HasOrigin s (e ∷ node_journal world s) p f v c → IsTold (commits (desk_journal world)) f v c
  from_origin world run ih s e legal p f v c bound (inl z) = inl z
  from_origin world run ih s e legal p f v c bound (inr (inl o)) =
      let less : o.0 < suc (length (node_journal world s)) = let l = o.2 in omega arith in
      let from = o.1 in
      ih from.server from.number f v c (inr (founded_inner bounds world run s o.0 (work.Refresh f v c from) (inner_before e (node_journal world s) o.0 _ less o.3)))
  from_origin world run ih s e legal p f v c bound (inr (inr o)) =
      let less : o.0 < suc (length (node_journal world s)) = let l = o.5 in omega arith in
      let d = o.6 in
      inr (of_vote world run s e legal o.0 o.1 o.2 o.3 o.4 f v c (record { cite = d.cite; decides = inner_before e (node_journal world s) o.0 _ less d.decides }) o.7 o.8 o.9)

  pub told : (world : List Event) → IsRun bounds world → AreTold world
  told [] run s p f v c (inl h) = let g = h.2 in cc
  told [] run s p f v c (inr h) = cc
  told (AtDesk e ∷ world) run s p f v c h = told_later e.ask e.reply (commits (desk_journal world)) f v c (told world run.0 s p f v c h)
  told (AtNode r e ∷ world) run s p f v c h = by (eqb r s) refl (legal_nodes bounds (AtNode r e ∷ world) run s) h (told world run.0)
    where
      by : (b : Bool) → eqb r s ≡ b → IsLegalNode s (cond b (e ∷ node_journal world s) (node_journal world s)) → TellsAt (cond b (e ∷ node_journal world s) (node_journal world s)) p f v c → AreTold world → IsTold (commits (desk_journal world)) f v c
      by true t legal h ih = from_origin world run.0 ih s e legal p f v c (tells-bound (e ∷ node_journal world s) p f v c h) (nodes.origin s (e ∷ node_journal world s) legal p f v c h)
      by false t legal h ih = ih s p f v c h
