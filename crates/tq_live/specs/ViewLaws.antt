-- What an ask of a view is to change, and the view with a change made. A view's plans may be made, and lead where its
-- asks do; its levels stay. A view's replies are of its tree.
use Rattle.std.specs.{Prelude.{◌≡◌, ◌-◌, ℕ, List, Option, Some, None, cond, slice_set, ⊤}, List.All}
use Rattle.std.proofs.Common.{Bool, true, false, refl, set, arith, ◌+◌, ◌∙◌, [], ◌∷◌, sym, subst}
use Rattle.std.proofs.lemmas.List.Elements.{All-nil, All-cons}
use Rattle.tq_live.specs.{Live.{Live, best}, Costs.AreLow, declared.{purpose.Purpose.Purpose, costs.Costs.Costs}}
use Rattle.tq_live.specs.View.{is_server, are_costs, view_after, view_state, view_reply, view_reply_at, view_after_at, IsLegalView, choice_reply}
use Rattle.tq_live.specs.declared.view.{ViewAsk.{ViewAsk, TheVariants.{SetCost, Mark, Choose}}, ViewChange.ViewChange}
use Rattle.tq_live.specs.declared.view.ViewReply.{ViewReply, TheVariants.{CostSet, Marked, Chosen, Refused}}
use Rattle.tq_live.specs.declared.view.ViewRefusal.TheVariants.{NoSuchServer, BadCost, Blocked}
use Rattle.tq_live.specs.declared.view.ViewChange.TheVariants as changes
use Rattle.tq_shape.specs.{declared.part.Entry.Entry, Journal.IsLegalFrom}

-- a quorum that is chosen is kept for its purpose
abbrev pub choice_change : Live → Purpose → Option (List ℕ) → ViewChange
choice_change live purpose (Some servers) = changes.Keep purpose (record { servers = servers; levels = live.levels })
choice_change live purpose None = changes.Nothing

-- what an ask is to change
abbrev pub view_change : Live → ViewAsk → ViewChange
view_change live (SetCost server read write) =
    cond (is_server live.levels server) (cond (are_costs read write) (changes.Cost (record { number = server; levels = live.levels }) (record { read = read; write = write })) changes.Nothing) changes.Nothing
view_change live (Mark server up) =
    cond (is_server live.levels server) (changes.Mark (record { number = server; levels = live.levels }) up) changes.Nothing
view_change live (Choose purpose) = choice_change live purpose (best live purpose 1)

-- the server is one of the tree, and may have the costs
abbrev pub ViewFits : Live → ViewChange → Type 0
ViewFits live changes.Nothing = Unit {0}
ViewFits live (changes.Cost server costs) = (server.levels ≡ live.levels) × AreLow costs
ViewFits live (changes.Mark server up) = server.levels ≡ live.levels
ViewFits live (changes.Keep purpose quorum) = Unit {0}

-- the view with a change made
abbrev pub view_changed : Live → ViewChange → Live
view_changed live changes.Nothing = live
view_changed live (changes.Cost server costs) = record live { costs = slice_set live.costs (server.number - 1) costs }
view_changed live (changes.Mark server up) = record live { up = slice_set live.up (server.number - 1) up }
view_changed live (changes.Keep purpose quorum) = live

-- ---- view laws

cost_fits : (live : Live) (server : ℕ) (costs : Costs) (there good : Bool) → (good ≡ true → AreLow costs)
    → ViewFits live (cond there (cond good (changes.Cost (record { number = server; levels = live.levels }) costs) changes.Nothing) changes.Nothing)
cost_fits live server costs true true h = (refl, h refl)
cost_fits live server costs true false h = tt
cost_fits live server costs false good h = tt

mark_fits : (live : Live) (server : ℕ) (up there : Bool) → ViewFits live (cond there (changes.Mark (record { number = server; levels = live.levels }) up) changes.Nothing)
mark_fits live server up true = refl
mark_fits live server up false = tt

are_costs-low : (read write : ℕ) → are_costs read write ≡ true → AreLow (record { read = read; write = write })
are_costs-low read write h = (grind arith, grind arith)

choice_fits : (live : Live) (purpose : Purpose) (found : Option (List ℕ)) → ViewFits live (choice_change live purpose found)
choice_fits live purpose (Some servers) = tt
choice_fits live purpose None = tt

-- the change that is planned of an ask may be made
pub change_fits : (live : Live) (ask : ViewAsk) → ViewFits live (view_change live ask)
change_fits live (SetCost server read write) =
    cost_fits live server (record { read = read; write = write }) (is_server live.levels server) (are_costs read write) (are_costs-low read write)
change_fits live (Mark server up) = mark_fits live server up (is_server live.levels server)
change_fits live (Choose purpose) = choice_fits live purpose (best live purpose 1)

cost_leads : (live : Live) (server : ℕ) (costs : Costs) (there good : Bool)
    → view_changed live (cond there (cond good (changes.Cost (record { number = server; levels = live.levels }) costs) changes.Nothing) changes.Nothing)
    ≡ cond there (cond good (record live { costs = set live.costs (server - 1) costs }) live) live
cost_leads live server costs true true = refl
cost_leads live server costs true false = refl
cost_leads live server costs false good = refl

mark_leads : (live : Live) (server : ℕ) (up there : Bool)
    → view_changed live (cond there (changes.Mark (record { number = server; levels = live.levels }) up) changes.Nothing)
    ≡ cond there (record live { up = set live.up (server - 1) up }) live
mark_leads live server up true = refl
mark_leads live server up false = refl

choice_leads : (live : Live) (purpose : Purpose) (found : Option (List ℕ)) → view_changed live (choice_change live purpose found) ≡ live
choice_leads live purpose (Some servers) = refl
choice_leads live purpose None = refl

-- it leads where the ask does
pub change_leads : (live : Live) (ask : ViewAsk) → view_changed live (view_change live ask) ≡ view_after live ask
change_leads live (SetCost server read write) =
    cost_leads live server (record { read = read; write = write }) (is_server live.levels server) (are_costs read write)
change_leads live (Mark server up) = mark_leads live server up (is_server live.levels server)
change_leads live (Choose purpose) = choice_leads live purpose (best live purpose 1)

cost_keeps : (live other : Live) (there good : Bool) → other.levels ≡ live.levels → (cond there (cond good other live) live).levels ≡ live.levels
cost_keeps live other true true same = same
cost_keeps live other true false same = refl
cost_keeps live other false good same = refl

-- an ask leaves the levels as they are
pub keeps_levels : (live : Live) (ask : ViewAsk) → (view_after live ask).levels ≡ live.levels
keeps_levels live (SetCost server read write) =
    let costs : Costs = record { read = read; write = write } in
    cost_keeps live (record live { costs = set live.costs (server - 1) costs }) (is_server live.levels server) (are_costs read write) refl
keeps_levels live (Mark server up) = cost_keeps live (record live { up = set live.up (server - 1) up }) (is_server live.levels server) true refl
keeps_levels live (Choose purpose) = refl

-- ---- view tree

-- the reply names no quorum and no blocker of a tree of other levels
abbrev pub IsOfTree : ℕ → ViewReply → Type 0
IsOfTree levels (Chosen quorum cost) = quorum.levels ≡ levels
IsOfTree levels (Refused (Blocked blocker)) = blocker.levels ≡ levels
IsOfTree levels other = ⊤

cost_of_tree : (levels : ℕ) (there good : Bool) → IsOfTree levels (cond there (cond good CostSet (Refused BadCost)) (Refused NoSuchServer))
cost_of_tree levels true true = tt
cost_of_tree levels true false = tt
cost_of_tree levels false good = tt

mark_of_tree : (levels : ℕ) (there : Bool) → IsOfTree levels (cond there Marked (Refused NoSuchServer))
mark_of_tree levels true = tt
mark_of_tree levels false = tt

choice_of_tree : (live : Live) (purpose : Purpose) (least : Option (List ℕ)) → IsOfTree live.levels (choice_reply live purpose least)
choice_of_tree live purpose None = refl
choice_of_tree live purpose (Some servers) = refl

-- what a view replies is of its tree
pub reply_of_tree : (live : Live) (ask : ViewAsk) → IsOfTree live.levels (view_reply live ask)
reply_of_tree live (SetCost server read write) = cost_of_tree live.levels (is_server live.levels server) (are_costs read write)
reply_of_tree live (Mark server up) = mark_of_tree live.levels (is_server live.levels server)
reply_of_tree live (Choose purpose) = choice_of_tree live purpose (best live purpose 1)

from_tree : (levels : ℕ) (live : Live) (n : ℕ) (entries : List (Entry ViewAsk ViewReply)) → live.levels ≡ levels → IsLegalFrom view_reply_at view_after_at live n entries
    → All (λ (entry : Entry ViewAsk ViewReply). IsOfTree levels entry.reply) entries
from_tree levels live n [] same legal = All-nil (λ (entry : Entry ViewAsk ViewReply). IsOfTree levels entry.reply)
from_tree levels live n (e ∷ entries) same legal =
    All-cons (λ (entry : Entry ViewAsk ViewReply). IsOfTree levels entry.reply) e entries
    (subst (λ (l : ℕ). IsOfTree l e.reply) same (subst (IsOfTree live.levels) (sym legal.0) (reply_of_tree live e.ask)))
    (from_tree levels (view_after_at live n e.ask) (n + 1) entries (keeps_levels live e.ask ∙ same) legal.1)

-- and so is each reply of a legal journal
pub replies_of_tree : (levels : ℕ) (journal : List (Entry ViewAsk ViewReply)) → IsLegalView levels journal → All (λ (entry : Entry ViewAsk ViewReply). IsOfTree levels entry.reply) journal
replies_of_tree levels journal legal = from_tree levels (view_state levels []) 1 journal refl legal
