-- The numbers of reads and writes, over the list of commits alone. Two quorums of one tree have a server in common.
-- Committed reads: each read of a commit is of the last write before it and has its number, and each write the next
-- number. Committed reads, of the journals of a run.
use Rattle.std.proofs.Common.{◌≡◌, ℕ, suc, ◌≤◌, Bool, true, false, cond, List, [], ◌∷◌, Option, Some, None, refl, sym, ap, subst, ◌∙◌, ◌⊎◌, inl, inr, arith, ◌≢◌, ◌++◌, reverse}
use Rattle.std.proofs.lemmas.{Bool.{and_parts, and_from, eqb-true, eq-eqb, cases_lt}, Map.Views.Contains-from_any}
use Rattle.std.specs.{List.{find, Contains}, Prelude.{◌==◌, nat_eq, ◌&&◌}, Cmp.Lexicographic.{pointwise, same_text}}
use Rattle.tq_evidence.specs.{declared.op.Op.Op, Evidence.{is_write, writes_file, servers_of}, declared.vote.Vote.Vote}
use Rattle.tq_evidence.specs.declared.grant.Grant.{Grant}
use Rattle.tq_store.{specs.Names.same_name, proofs.Padded.{same_name-is, same_name-refl}}
use Rattle.tq_shape.specs.Journal.{Has, entry_at}
use Rattle.tq_shape.proofs.Places.{find-Has, none-Has, any-Has, Has-map, map-Has, Has-any, Some-same}
use Rattle.tq_desk.specs.DeskJournal.{Commit, count_one, count, last_one, last_write, IsNumbered, AreNumbered, IsWritten, DeskBounds, DeskEntry, IsLegalDesk, final, with_commit, commits, DeskLaws, IsShown, HasTop}
use Rattle.tq_desk.specs.{declared.ask.DeskAsk.DeskAsk, declared.ask.DeskReply.DeskReply, DeskStep.cited_votes}
use Rattle.tq_desk.proofs.DeskFinal.{desk_laws}
use Rattle.tq_coterie.{specs.Coterie.{coterie, has, is_quorum}, proofs.Members.any_two-meet}
use Rattle.tq_core.proofs.Worlds.{MeetsAll, Event, AtNode, AtDesk, node_journal, desk_journal, IsFoundedCommit, IsFoundedAsk, IsRun, legal_nodes, legal_desk, founded_commits}
use Rattle.tq_core.proofs.{Told.{IsTold, shown_commits, decided, told}, Runs.run_from-append}
use Rattle.tq_core.{proofs.Journaled.{bounds_of, HasEvents, run_events}, specs.declared.answer.Step.Step}
use Rattle.tq_core.specs.{Steps.{run, run_from, IsOfRun}, Headline.HasCommittedReads}
use Rattle.tq_tables.specs.Journals.{no_entries, JournalsView}
use Rattle.tq_asks.specs.{declared.ask.{CitedVote.CitedVote, Verdict.Verdict}, Verdicts.IsCited}
use Rattle.tq_asks.specs.declared.ask.Verdict.TheVariants as verdicts
use Rattle.tq_desk.specs.declared.ask.DeskAsk.TheVariants as asks
use Rattle.tq_desk.specs.declared.ask.DeskReply.TheVariants as replies
use Rattle.tq_node.{specs.{NodeJournal.{NodeEntry, HasHeld}, NodeLaws.NodeLaws}, proofs.Lawful.node_laws}

pub writes_file-is : (file : List ℕ) (op : Op) → writes_file file op ≡ true → (is_write op ≡ true) × (op.file ≡ file)
writes_file-is file op h = let p = and_parts (is_write op) (same_name op.file file) h in (p.0, same_name-is op.file file p.1)

pub is-writes_file : (file : List ℕ) (op : Op) → is_write op ≡ true → op.file ≡ file → writes_file file op ≡ true
is-writes_file file op w e = and_from _ _ w (subst (λ (f : List ℕ). same_name op.file f ≡ true) e (same_name-refl op.file))

-- one write op of a file at most in each of the commits
abbrev pub AreOnce : List Commit → Type 0
AreOnce list = (c : Commit) → Has list c → (a b : Op) → Has c.ops a → Has c.ops b → is_write a ≡ true → is_write b ≡ true → a.file ≡ b.file → a ≡ b

at_true : (b : Bool) (X Y : Type 0) → b ≡ true → cond b X Y → X
at_true true X Y e x = x
at_true false X Y e y = cc

pub write_number : (earlier : List Commit) (op : Op) (file : List ℕ) → IsNumbered earlier op → is_write op ≡ true → op.file ≡ file → op.version ≡ suc (count file earlier)
write_number earlier op file h w e =
    at_true (is_write op) _ _ w h ∙ ap (λ f. suc (count f earlier)) e

-- some op of the commit writes the file
finds : (c : Commit) (file : List ℕ) (op : Op) → Has c.ops op → is_write op ≡ true → op.file ≡ file → find (writes_file file) c.ops ≡ None → ⊥
finds c file op has w e n = none-Has (writes_file file) c.ops n op has (is-writes_file file op w e)

count_rises : (o : Option Op) (n : ℕ) → n ≤ count_one o n
count_rises None n = omega arith
count_rises (Some op) n = omega arith

-- each write has a number from 1 to their count
pub IsWritten-bound : (list : List Commit) (file : List ℕ) (v : ℕ) (c : List ℕ) → AreNumbered list → IsWritten list file v c → (1 ≤ v) × (v ≤ count file list)
IsWritten-bound [] file v c h w = absurd w.is_there
IsWritten-bound (d ∷ list) file v c h w = place w.is_there (λ old. IsWritten-bound list file v c h.1 (record { commit = w.commit; is_there = old; op = w.op; has_op = w.has_op; writes = w.writes; on_file = w.on_file; of_version = w.of_version; of_content = w.of_content }))
  where
    new : d ≡ w.commit → (o : Option Op) → find (writes_file file) d.ops ≡ o → (1 ≤ v) × (v ≤ count_one o (count file list))
    new e None f = absurd (finds d file w.op (subst (λ (x : Commit). Has x.ops w.op) (sym e) w.has_op) w.writes w.on_file f)
    new e (Some op) f =
        let n = write_number list w.op file (h.0 w.op (subst (λ (x : Commit). Has x.ops w.op) (sym e) w.has_op)) w.writes w.on_file in
        let v_is = w.of_version in
        (omega arith, omega arith)

    place : (d ≡ w.commit) ⊎ Has list w.commit → (Has list w.commit → (1 ≤ v) × (v ≤ count file list)) → (1 ≤ v) × (v ≤ count file (d ∷ list))
    place (inl e) ih = new e (find (writes_file file) d.ops) refl
    place (inr old) ih =
        let r = ih old in
        let up = count_rises (find (writes_file file) d.ops) (count file list) in
        (omega arith, omega arith)

pub IsWritten-old : (d : Commit) (list : List Commit) (file : List ℕ) (v : ℕ) (c : List ℕ) → IsWritten list file v c → IsWritten (d ∷ list) file v c
IsWritten-old d list file v c w = record { commit = w.commit; is_there = inr w.is_there; op = w.op; has_op = w.has_op; writes = w.writes; on_file = w.on_file; of_version = w.of_version; of_content = w.of_content }

-- the last of them has their count as its number
pub last-IsWritten : (list : List Commit) (file : List ℕ) → AreNumbered list → 1 ≤ count file list → IsWritten list file (count file list) (last_write file list)
last-IsWritten [] file h some = absurd (omega arith)
last-IsWritten (d ∷ list) file h some = by (find (writes_file file) d.ops) refl some (λ s. last-IsWritten list file h.1 s)
  where
    by : (o : Option Op) → find (writes_file file) d.ops ≡ o → 1 ≤ count_one o (count file list) → (1 ≤ count file list → IsWritten list file (count file list) (last_write file list))
        → IsWritten (d ∷ list) file (count_one o (count file list)) (last_one o (last_write file list))
    by None f s ih = IsWritten-old d list file _ _ (ih s)
    by (Some op) f s ih =
        let p = find-Has (writes_file file) d.ops op f in
        let q = writes_file-is file op p.1 in
        record { commit = d; is_there = inl refl; op = op; has_op = p.0; writes = q.0; on_file = q.1; of_version = write_number list op file (h.0 op p.0) q.0 q.1; of_content = refl }

-- and no other has
pub IsWritten-last : (list : List Commit) (file : List ℕ) (c : List ℕ) → AreNumbered list → AreOnce list → IsWritten list file (count file list) c → c ≡ last_write file list
IsWritten-last [] file c h once w = absurd w.is_there
IsWritten-last (d ∷ list) file c h once w =
    by (find (writes_file file) d.ops) refl w.of_version w.is_there
    (λ old v. IsWritten-last list file c h.1 (λ x has. once x (inr has)) (record { commit = w.commit; is_there = old; op = w.op; has_op = w.has_op; writes = w.writes; on_file = w.on_file; of_version = v; of_content = w.of_content }))
  where
    by : (o : Option Op) → find (writes_file file) d.ops ≡ o → w.op.version ≡ count_one o (count file list) → (d ≡ w.commit) ⊎ Has list w.commit
        → (Has list w.commit → w.op.version ≡ count file list → c ≡ last_write file list)
        → c ≡ last_one o (last_write file list)
    by None f v (inl e) ih = absurd (finds d file w.op (subst (λ (x : Commit). Has x.ops w.op) (sym e) w.has_op) w.writes w.on_file f)
    by None f v (inr old) ih = ih old v
    by (Some op) f v (inl e) ih =
        let p = find-Has (writes_file file) d.ops op f in
        let q = writes_file-is file op p.1 in
        sym w.of_content ∙ ap (λ (x : Op). x.content) (once d (inl refl) w.op op (subst (λ (x : Commit). Has x.ops w.op) (sym e) w.has_op) p.0 w.writes q.0 (w.on_file ∙ sym q.1))
    by (Some op) f v (inr old) ih =
        let r = IsWritten-bound list file w.op.version c h.1 (record { commit = w.commit; is_there = old; op = w.op; has_op = w.has_op; writes = w.writes; on_file = w.on_file; of_version = refl; of_content = w.of_content }) in
        absurd (omega arith)

pub none-last_write : (list : List Commit) (file : List ℕ) → count file list ≡ 0 → last_write file list ≡ []
none-last_write [] file e = refl
none-last_write (d ∷ list) file e = by (find (writes_file file) d.ops) e (none-last_write list file)
  where
    by : (o : Option Op) → count_one o (count file list) ≡ 0 → (count file list ≡ 0 → last_write file list ≡ []) → last_one o (last_write file list) ≡ []
    by None z ih = ih z
    by (Some op) z ih = absurd (omega arith)

-- ---- quorums

is_there : (levels : ℕ) (servers : List ℕ) → is_quorum levels servers ≡ true → Contains (coterie levels) servers
is_there levels servers is = Contains-from_any {eq = pointwise nat_eq} (λ x y same. same_text x y (sym same)) servers (coterie levels) is

has-Has : (servers : List ℕ) (server : ℕ) → has servers server ≡ true → Has servers server
has-Has servers server is =
    let found = any-Has (λ (first : ℕ). first == server) servers is in
    subst (λ (n : ℕ). Has servers n) (eqb-true found.0 server found.2) found.1

pub meets_all : (levels : ℕ) → MeetsAll (is_quorum levels)
meets_all levels a b is also =
    let both = any_two-meet levels a b (is_there levels a is) (is_there levels b also) in
    (both.0, has-Has a both.0 both.1, has-Has b both.0 both.2)

-- ---- committed

-- a vote of the list is cited by its record
vote-cited : (votes : List Vote) (vote : Vote) (s : ℕ) → Has votes vote → vote.server ≡ s → IsCited (verdicts.Commit (cited_votes votes)) s vote.number
vote-cited votes vote s h e =
    Has-any (λ (v : CitedVote). v.server == s && v.number == vote.number) (cited_votes votes) (record { server = vote.server; number = vote.number })
    (map-Has (λ (v : Vote). record { server = v.server; number = v.number }) votes vote h)
    (and_from _ _ (eq-eqb vote.server s e) (eq-eqb vote.number vote.number refl))

-- the vote of a server that an op has
record IsVoteAt (votes : List Vote) (file : List ℕ) (s : ℕ) (grant : Grant) (vote : Vote) (since : ℕ) : Type 0 where
  has_vote : Has votes vote
  vote_server : vote.server ≡ s
  grant_server : grant.server ≡ s
  holds : HasHeld vote.held file since
  from : since ≤ grant.number

chosen : (b : Bool) (X Y : Type 0) → (b ≡ true → X) → (b ≡ false → Y) → cond b X Y
chosen true X Y f g = f refl
chosen false X Y f g = g refl

module _ (bounds : DeskBounds) (nodes : NodeLaws) (desk : DeskLaws bounds) (meets : MeetsAll (is_quorum bounds.levels)) where
  -- the grant and the vote at a server of an op
  at_server : (ops : List Op) (votes : List Vote) → IsShown (is_quorum bounds.levels) ops votes → (op : Op) → Has ops op → (s : ℕ) → Has (servers_of op) s
      → (grant : Grant) × Has op.grants grant × ((vote : Vote) × (since : ℕ) × IsVoteAt votes op.file s grant vote since)
  at_server ops votes shown op has s h =
      let g = Has-map (λ (grant : Grant). grant.server) op.grants s h in
      let v = shown.coverage op has g.0 g.1 in
      (g.0, g.1, (v.0, v.1, record { has_vote = (v.2).is_there; vote_server = (v.2).at_server ∙ g.2; grant_server = g.2; holds = let covered = v.2 in record { lock = covered.lock; is_there = covered.has_lock; on_file = covered.on_file; from = covered.since_is }; from = (v.2).from }))

  at : (world : List Event) (s r n : ℕ) (e : NodeEntry) → r ≡ s → entry_at (node_journal world r) n ≡ Some e → entry_at (node_journal world s) n ≡ Some e
  at world s r n e p h = subst (λ (q : ℕ). entry_at (node_journal world q) n ≡ Some e) p h

  -- some grant of the op is at least each write of an earlier commit
  at_least : (world : List Event) → IsRun bounds world → (t : ℕ) (ops : List Op) (votes : List Vote) → IsFoundedCommit world t ops votes → IsShown (is_quorum bounds.levels) ops votes
      → final (desk_journal world) t ≡ None → (op : Op) → Has ops op
      → (c : Commit) → Has (commits (desk_journal world)) c → (w : Op) → Has c.ops w → is_write w ≡ true → w.file ≡ op.file
      → (grant : Grant) × Has op.grants grant × (w.version ≤ grant.version)
  at_least world run t ops votes founded shown undecided op has c has_c w has_w writes same_file =
      let D = desk_journal world in
      let legal_d = legal_desk bounds world run in
      let shown_c = shown_commits bounds nodes desk D legal_d c has_c in
      let founded_c = founded_commits bounds world run c has_c in
      let stands = desk.stands D c has_c in
      let final_c = desk.told D legal_d stands.0 c.txn (verdicts.Commit (cited_votes c.votes)) stands.1 in
      let m = meets (servers_of op) (servers_of w) (shown.members op has) (shown_c.members w has_w) in
      let s = m.0 in
      let a = at_server ops votes shown op has s m.1 in
      let b = at_server c.ops c.votes shown_c w has_w s m.2 in
      let g = a.0 in
      let v1 = a.2.0 in
      let k1 = a.2.2 in
      let v2 = b.2.0 in
      let k2 = b.2.2 in
      let apart : t ≢ c.txn = λ e. let u : Path (Option Verdict) None (Some (verdicts.Commit (cited_votes c.votes))) = sym undecided ∙ ap (λ (x : ℕ). final D x) e ∙ final_c in cc in
      let y1 = founded.each_vote v1 k1.has_vote in
      let y2 = founded_c.each_vote v2 k2.has_vote in (
        g,
        a.1,
        nodes.seen s (node_journal world s) (legal_nodes bounds world run s) t c.txn apart
            op.file v1.number v1.held v1.writes a.2.1 (record { asked = y1.asked; is_there = at world s v1.server v1.number _ k1.vote_server y1.is_there }) k1.holds
            (λ d verdict decision. let u : Path (Option Verdict) None (Some verdict) = sym undecided ∙ decided bounds nodes desk world run s d t verdict decision in cc)
            g.number g.mode g.version g.content (at world s g.server g.number _ k1.grant_server (founded.grants op has g a.1)) k1.from
            v2.number v2.held v2.writes w.version w.content (record { asked = y2.asked; is_there = at world s v2.server v2.number _ k2.vote_server y2.is_there })
            (record { is_there = subst (λ (f : List ℕ). Has v2.writes (record { file = f; version = w.version; content = w.content })) same_file (shown_c.in_vote v2 k2.has_vote w has_w writes (subst (λ (x : ℕ). Has (servers_of w) x) (sym k2.vote_server) m.2)) })
            (λ d verdict decision.
            let e : verdicts.Commit (cited_votes c.votes) ≡ verdict = Some-same (sym final_c ∙ decided bounds nodes desk world run s d c.txn verdict decision) in
            subst (λ (x : Verdict). IsCited x s v2.number) e (vote-cited c.votes v2 s k2.has_vote k2.vote_server)),
      )

  pub once_commits : (D : List DeskEntry) → IsLegalDesk bounds D → AreOnce (commits D)
  once_commits D legal c has = (shown_commits bounds nodes desk D legal c has).once

  -- the newest grant of an op is of the last write
  top_is : (world : List Event) → IsRun bounds world → (t : ℕ) (ops : List Op) (votes : List Vote) → IsFoundedCommit world t ops votes → IsShown (is_quorum bounds.levels) ops votes
      → final (desk_journal world) t ≡ None → AreNumbered (commits (desk_journal world)) → (op : Op) → Has ops op → (newest : Grant) → HasTop op newest
      → (newest.version ≡ count op.file (commits (desk_journal world))) × (newest.content ≡ last_write op.file (commits (desk_journal world)))
  top_is world run t ops votes founded shown undecided numbered op has newest top =
      by (told bounds nodes desk world run newest.server newest.number op.file newest.version newest.content (inl (t, newest.mode, founded.grants op has newest top.is_there)))
    where
      list : List Commit
      list = commits (desk_journal world)

      enough : 1 ≤ count op.file (commits (desk_journal world)) → count op.file (commits (desk_journal world)) ≤ newest.version
      enough some =
          let l = last-IsWritten (commits (desk_journal world)) op.file numbered some in
          let g = at_least world run t ops votes founded shown undecided op has l.commit l.is_there l.op l.has_op l.writes l.on_file in
          let least = g.2 in
          let most = top.bounds g.0 g.1 in
          let is = l.of_version in
          omega arith

      by : IsTold (commits (desk_journal world)) op.file newest.version newest.content
          → (newest.version ≡ count op.file (commits (desk_journal world))) × (newest.content ≡ last_write op.file (commits (desk_journal world)))
      by (inl z) =
          let zero_version = z.0 in
          let none : count op.file (commits (desk_journal world)) ≡ 0 =
          elim (cases_lt 0 (count op.file (commits (desk_journal world)))) [
            | inl some ↦ let e = enough some in absurd (omega arith)
            | inr few ↦ omega arith
          ] in
          (z.0 ∙ sym none, z.1 ∙ sym (none-last_write (commits (desk_journal world)) op.file none))
      by (inr w) =
          let b = IsWritten-bound (commits (desk_journal world)) op.file newest.version newest.content numbered w in
          let low = b.0 in
          let high = b.1 in
          let e = enough (omega arith) in
          let same : newest.version ≡ count op.file (commits (desk_journal world)) = omega arith in (
            same,
            IsWritten-last (commits (desk_journal world)) op.file newest.content numbered (once_commits (desk_journal world) (legal_desk bounds world run))
                (subst (λ (v : ℕ). IsWritten (commits (desk_journal world)) op.file v newest.content) same w),
          )

  op_numbered : (world : List Event) → IsRun bounds world → (t : ℕ) (ops : List Op) (votes : List Vote) → IsFoundedCommit world t ops votes → IsShown (is_quorum bounds.levels) ops votes
      → final (desk_journal world) t ≡ None → AreNumbered (commits (desk_journal world)) → (op : Op) → Has ops op → IsNumbered (commits (desk_journal world)) op
  op_numbered world run t ops votes founded shown undecided numbered op has =
      chosen (is_write op) _ _
      (λ w.
      let m = meets (servers_of op) (servers_of op) (shown.members op has) (shown.members op has) in
      let g = Has-map (λ (grant : Grant). grant.server) op.grants m.0 m.1 in
      let n = shown.top op has g.0 g.1 in
      shown.write_version op has w n.0 n.1 ∙ ap (λ (k : ℕ). suc k) (top_is world run t ops votes founded shown undecided numbered op has n.0 n.1).0)
      (λ r.
      let n = shown.read_copy op has r in
      let is = top_is world run t ops votes founded shown undecided numbered op has n.0 n.1 in
      (n.2 ∙ is.0, n.3 ∙ is.1))

  step : (world : List Event) → IsRun bounds world → AreNumbered (commits (desk_journal world)) → (a : DeskAsk) (r : DeskReply)
      → IsLegalDesk bounds (record { ask = a; reply = r } ∷ desk_journal world) → IsFoundedAsk world a → AreNumbered (with_commit a r (commits (desk_journal world)))
  step world run ih (asks.Commit t ops votes) (replies.Committed i) legal founded =
      let f = desk.fresh (desk_journal world) t ops votes i legal in
      (λ op has. op_numbered world run t ops votes founded f.1 f.0 ih op has, ih)
  step world run ih a r legal founded = ih

  -- the theorem
  pub committed_reads : (world : List Event) → IsRun bounds world → AreNumbered (commits (desk_journal world))
  committed_reads [] run = tt
  committed_reads (AtNode r e ∷ world) run = committed_reads world run.0
  committed_reads (AtDesk e ∷ world) run = step world run.0 (committed_reads world run.0) e.ask e.reply (legal_desk bounds (AtDesk e ∷ world) run) run.2

-- ---- reads of run

reads : (world : JournalsView) → HasEvents world → AreNumbered (commits (reverse world.desk))
reads world has =
    subst (λ (J : List DeskEntry). AreNumbered (commits J)) has.1.desk
    (committed_reads (bounds_of world) node_laws (desk_laws (bounds_of world)) (meets_all world.levels) has.0 has.1.ran)

-- each read of a commit is of the last write before it and has its number, and each write has the next number
pub reads_of_run : (world : JournalsView) → IsOfRun world → HasCommittedReads world
reads_of_run world ran = subst (λ (w : JournalsView). HasCommittedReads w) (sym ran.1) (reads (run world.levels world.limits ran.0) (run_events world.levels world.limits ran.0))

-- and so after more steps
pub reads_of_more : (old new : JournalsView) → IsOfRun old → (more : List Step) → new ≡ run_from old more → HasCommittedReads new
reads_of_more old new ran more is =
    subst (λ (w : JournalsView). HasCommittedReads w) (sym (is ∙ ap (λ (w : JournalsView). run_from w more) ran.1 ∙ sym (run_from-append (no_entries old.levels old.limits) ran.0 more)))
    (reads (run old.levels old.limits (ran.0 ++ more)) (run_events old.levels old.limits (ran.0 ++ more)))

-- what a service sees of its fields is a run, and so is the service
pub seen_run : (seen now : JournalsView) → seen ≡ now → IsOfRun seen → IsOfRun now
seen_run seen now same ran = subst IsOfRun same ran
