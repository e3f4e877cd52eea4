-- From the networks of one length that reach a number to those of the next.
use Rattle.std.specs.Prelude.{◌≡◌, ◌<◌, ◌≤◌, ◌≤ℤ◌, ◌+◌, ◌*◌, ◌%◌, ◌^◌, ℕ, ℤ, pos, Bool, true, false, List, [], ◌∷◌, length, map, filter, take, nat_lt, int_le, Contains, slice_index_or}
use Rattle.std.specs.List.{flat_map, range_with_len}
use Rattle.hash_rows.specs.declared.shape.Packet.{Packet}
use Rattle.hash_rows.specs.Sketches.{count_min_estimate}
use Rattle.hash_rows.specs.Tables.{TableView}
use Rattle.prefixes.specs.declared.network.Prefix.{Prefix}
use Rattle.prefixes.specs.Networks.{IsLength, IsNetwork, addresses_in, prefix_key}
use Rattle.prefix_stack.specs.declared.hit.Hit.{Hit}
use Rattle.prefix_stack.specs.declared.hit.Reached.{Reached}
use Rattle.prefix_stack.specs.Levels.{network_amount}

-- all addresses
abbrev pub everything : Prefix
everything = record { bits = 0; length = 0 }

-- the network of this number, among the 256 in it that are 8 bits longer
unfoldable pub child_of : Prefix → ℕ → Prefix
child_of p k = record { bits = p.bits + k * addresses_in (p.length + 8); length = p.length + 8 }

-- all of them, by address
unfoldable pub children_of : Prefix → List Prefix
children_of p = map (child_of p) (range_with_len 0 256)

-- those of each of these networks: the candidates of the next length
unfoldable pub candidates_of : List Prefix → List Prefix
candidates_of parents = flat_map children_of parents

-- the network, and what the table of its length says of it
abbrev pub hit_by : TableView → Prefix → Hit
hit_by table p = record { prefix = p; estimate = count_min_estimate table.shape table.cells (prefix_key p) }

-- the candidates whose estimate reaches the number
unfoldable pub qualified_of : TableView → ℤ → List Prefix → List Hit
qualified_of table least candidates = filter (λ hit. int_le least hit.estimate) (map (hit_by table) candidates)

-- the first of those that qualify
abbrev pub hits_of : TableView → ℕ → ℤ → List Prefix → List Hit
hits_of table limit least candidates = take limit (qualified_of table least candidates)

-- whether others qualify
abbrev pub has_more : TableView → ℕ → ℤ → List Prefix → Bool
has_more table limit least candidates = nat_lt limit (length (qualified_of table least candidates))

-- the networks of some hits
abbrev pub prefixes_of : List Hit → List Prefix
prefixes_of hits = map (λ hit. hit.prefix) hits

-- the hits of a length, and whether others qualify
pub record Level : Type 0 where
  pub hits : List Hit
  pub more : Bool

-- the level of this table, among the candidates below these networks
unfoldable pub level_below : ℕ → ℤ → List Prefix → TableView → Level
level_below limit least parents table = record {
  hits = hits_of table limit least (candidates_of parents);
  more = has_more table limit least (candidates_of parents);
}

-- the levels of these tables: the candidates of the first are below these networks, and those of each other below the hits before
abbrev pub levels_below : ℕ → ℤ → List Prefix → List TableView → List Level
levels_below limit least parents [] = []
levels_below limit least parents (table ∷ tables) =
    level_below limit least parents table
    ∷ levels_below limit least (prefixes_of (level_below limit least parents table).hits) tables

-- the levels of these tables: the candidates of the first are all networks of 8 bits
unfoldable pub levels_of : List TableView → ℕ → ℤ → List Level
levels_of tables limit least = levels_below limit least (everything ∷ []) tables

-- the hits of all levels, and for each whether others qualify
pub record IsFound (tables : List TableView) (limit : ℕ) (least : ℤ) (hits : List Hit) (more : List Bool) : Type 0 where
  pub hits_are : hits ≡ flat_map (λ level. level.hits) (levels_of tables limit least)
  pub more_is : more ≡ map (λ level. level.more) (levels_of tables limit least)

-- where nothing was cut off at its length and at all shorter ones, each network whose packets reach the number is a hit
abbrev pub MissesNone : List Packet → ℤ → List Hit → List Bool → Type 0
MissesNone packets least hits more =
    (p : Prefix) → IsNetwork p → ((k : ℕ) → 8 * (k + 1) ≤ p.length → slice_index_or more k true ≡ false)
    → least ≤ℤ pos (network_amount packets p) → Contains (prefixes_of hits) p

-- what was found among these candidates
pub record IsLevelOf (table : TableView) (limit : ℕ) (least : ℤ) (candidates : List Prefix) (r : Reached) : Type 0 where
  pub hits : r.hits.items ≡ hits_of table limit least candidates
  pub more : r.more ≡ has_more table limit least candidates
  pub room : r.hits.room ≡ limit

-- a network that is 8 bits shorter than those of the length
pub record IsParent (length : ℕ) (p : Prefix) : Type 0 where
  pub lawful : IsLength length
  pub shorter : p.length + 8 ≡ length
  pub fits : p.bits < 2 ^ 32
  pub rest : p.bits % addresses_in p.length ≡ 0
