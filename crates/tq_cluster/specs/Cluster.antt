-- What is seen of a running cluster. What comes of a cluster that is closed.
use Rattle.std.specs.Prelude.{◌≡◌, ℕ, ◌+◌, ◌^◌, List, [], ◌∷◌, length, ⊤}
use Rattle.tq_shape.specs.{Limits.LimitsView, declared.part.Part.Part}
use Rattle.tq_shape.specs.declared.part.Part.TheVariants as parts
use Rattle.tq_txn.specs.declared.asker.Exchange.{Exchange}
use Rattle.tq_tables.specs.{Journals.JournalsView, Parts.AreLegal, Tables.{TablesView, tables_of}}
use Rattle.tq_merge.specs.{Order.IsStuck, declared.fault.CloseFault.CloseFault}
use Rattle.tq_merge.specs.Told.{entry_name, found_at, AreKept, IsBad}
use Rattle.tq_merge.specs.declared.fault.CloseFault.TheVariants as faults
use Rattle.tq_mirror.specs.Prefixes.{AllBegin}

-- how many levels the tree of servers has, and the limits
pub record ClusterView : Type 0 where
  pub levels : ℕ
  pub limits : LimitsView

-- the names are those of servers, upwards from the first
abbrev pub AreServers : ℕ → List Part → Type 0
AreServers first [] = Unit {0}
AreServers first (name ∷ names) = (name ≡ parts.Server first) × AreServers (first + 1) names

-- there is a cell for each server of the tree, one for the desk and one for the view, and each has the name of its part
pub record IsCluster (levels : ℕ) (servers : List Part) (desk view : Part) : Type 0 where
  pub one_each : length servers + 1 ≡ 2 ^ levels
  pub are_servers : AreServers 1 servers
  pub is_desk : desk ≡ parts.Desk
  pub is_view : view ≡ parts.View

-- ---- closes

-- they are legal journals of the parts of this cluster
pub record AreOfCluster (cluster : ClusterView) (journals : JournalsView) : Type 0 where
  pub levels : journals.levels ≡ cluster.levels
  pub limits : journals.limits ≡ cluster.limits
  pub legal : AreLegal journals

-- memory was refused; or a caller was told of this entry what is not kept in legal journals of the cluster, and that is
-- found in its place; or all that callers were told is kept in these, and they have no order
abbrev pub IsClosedBy : ClusterView → List (List Exchange) → CloseFault → Type 0
IsClosedBy cluster told faults.Memory = ⊤
IsClosedBy cluster told (faults.Receipt part number found) =
    (journals : JournalsView) × AreOfCluster cluster journals × IsBad journals told (entry_name part number) × (found ≡ found_at journals part number)
IsClosedBy cluster told (faults.Stuck journals placed) = AreOfCluster cluster journals × AreKept journals told × IsStuck journals placed

-- they are the tables over legal prefixes of the journals
pub record AreTablesOfPrefixes (journals : JournalsView) (tables : TablesView) : Type 0 where
  pub prefixes : JournalsView
  pub levels : prefixes.levels ≡ journals.levels
  pub limits : prefixes.limits ≡ journals.limits
  pub begin : AllBegin prefixes journals
  pub legal : AreLegal prefixes
  pub over : tables ≡ tables_of prefixes
