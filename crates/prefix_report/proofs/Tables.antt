-- The tables of the four lengths.
use Rattle.std.proofs.Common.{◌≡◌, ◌∙◌, ◌-◌, ◌/◌, inl, inr, ℕ, suc, ℤ, Bool, List, [], ◌∷◌, length, get_or, refl, sym, ap, subst}
use Rattle.std.proofs.lemmas.List.{length-map}
use Rattle.hash_rows.specs.declared.shape.Packet.{Packet}
use Rattle.hash_rows.specs.declared.shape.Shape.{Shape}
use Rattle.hash_rows.specs.Sketches.{count_min_estimate}
use Rattle.hash_rows.specs.Tables.{TableView}
use Rattle.packet_key.specs.declared.key.FlowKey.{FlowKey}
use Rattle.prefixes.specs.declared.network.Prefix.{Prefix}
use Rattle.prefixes.specs.Networks.{IsLength, prefix_key}
use Rattle.prefix_stack.specs.declared.hit.Hit.{Hit}
use Rattle.prefix_stack.specs.Descent.{IsFound, everything, hit_by, level_below, levels_below, levels_of, prefixes_of}
use Rattle.prefix_stack.specs.Levels.{level_table, level_tables}
use Rattle.prefix_report.specs.Reports.{estimated}

-- that of a length
at_length : (shape : Shape) (packets : List Packet) (d : TableView) (bits : ℕ) → IsLength bits
    → get_or (level_tables shape packets) (bits / 8 - 1) d ≡ level_table shape packets bits
unfolding level_tables
at_length shape packets d bits is = by is where
  at : (n : ℕ) → bits ≡ n → get_or (level_tables shape packets) (n / 8 - 1) d ≡ level_table shape packets n
      → get_or (level_tables shape packets) (bits / 8 - 1) d ≡ level_table shape packets bits
  at n same = subst (λ (m : ℕ). get_or (level_tables shape packets) (m / 8 - 1) d ≡ level_table shape packets m) (sym same)

  by : IsLength bits → get_or (level_tables shape packets) (bits / 8 - 1) d ≡ level_table shape packets bits
  by (inl same) = at 8 same refl
  by (inr (inl same)) = at 16 same refl
  by (inr (inr (inl same))) = at 24 same refl
  by (inr (inr (inr same))) = at 32 same refl

pub estimated_is : (shape : Shape) (packets : List Packet) (tables : List TableView) (p : Prefix) (table : TableView) (key : FlowKey) (e f : ℤ) → IsLength p.length
    → tables ≡ level_tables shape packets → table ≡ get_or tables (p.length / 8 - 1) table → key ≡ prefix_key p
    → e ≡ count_min_estimate table.shape table.cells key → f ≡ e → record { prefix = p; estimate = f } ≡ estimated shape packets p
unfolding estimated
estimated_is shape packets tables p table key e f lawful are is same said exact =
    let its : table ≡ level_table shape packets p.length = is ∙ ap (λ (ts : List TableView). get_or ts (p.length / 8 - 1) table) are ∙ at_length shape packets table p.length lawful in
    let estimate : f ≡ (hit_by table p).estimate = exact ∙ said ∙ ap (count_min_estimate table.shape table.cells) same in
    ap (λ (z : ℤ). record { prefix = p; estimate = z }) estimate ∙ ap (λ (t : TableView). hit_by t p) its

pub four_tables : (shape : Shape) (packets : List Packet) → length (level_tables shape packets) ≡ 4
unfolding level_tables
four_tables shape packets = refl

-- as many levels as tables
levels_len : (limit : ℕ) (least : ℤ) (parents : List Prefix) (tables : List TableView) → length (levels_below limit least parents tables) ≡ length tables
levels_len limit least parents [] = refl
levels_len limit least parents (table ∷ tables) = ap suc (levels_len limit least (prefixes_of (level_below limit least parents table).hits) tables)

pub four_found : (tables : List TableView) (limit : ℕ) (least : ℤ) (hits : List Hit) (more : List Bool) → length tables ≡ 4 → IsFound tables limit least hits more → length more ≡ 4
unfolding levels_of
four_found tables limit least hits more four found =
    ap length found.more_is ∙ length-map (levels_of tables limit least) (λ level. level.more) ∙ levels_len limit least (everything ∷ []) tables ∙ four
