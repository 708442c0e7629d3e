-- What was found, one kind after another, is what is odd about the bytes.
use Rattle.std.proofs.Common.{◌≡◌, ℕ, List, [], ◌∷◌, ◌++◌, take, Option, Some, None, sym, ap, subst, ◌∙◌}
use Rattle.tuple_bytes.specs.declared.header.Header.{Header}
use Rattle.tuple_bytes.specs.declared.item.Item.{Item}
use Rattle.history_model.specs.declared.format.Format.{Format}
use Rattle.history_model.specs.declared.head.Front.{Front}
use Rattle.history_model.specs.Heads.{is_segmented, format_by}
use Rattle.history_model.specs.Stored.{max_file, items_of, front_header, found_behind, stored, stored_under}
use Rattle.history_model.specs.History.{last_moment}
use Rattle.file_findings.specs.declared.finding.Finding.{Finding}
use Rattle.file_findings.specs.declared.finding.Finding.TheVariants.{OtherId, FirstFormat}
use Rattle.file_findings.specs.Along.{listed}
use Rattle.store_inspect.specs.declared.seen.StoreKnown.{StoreKnown}
use Rattle.store_inspect.specs.declared.seen.StoreSeen.{StoreSeen}
use Rattle.store_inspect.specs.declared.store_file.StoreFile.{StoreFile}
use Rattle.store_inspect.specs.Items.{findings_of_items}
use Rattle.store_inspect.specs.Front.{headless}
use Rattle.store_inspect.specs.Runs.{tails_of, past_limit, trailing}
use Rattle.store_inspect.specs.Reading.{HasBytes, HasFront}
use Rattle.store_inspect.specs.Store.{is_other, is_first, store_ahead, findings_by, KnowsStore, IsSeen}
use Rattle.store_inspect.proofs.Cutting.{front_same, segmented_same, items_same, headless_same}

-- ---- without a header

header_none : (x : List ℕ) → front_header x ≡ None → (stored x).header ≡ None
header_none x none = ap (λ (o : Option Header). (stored_under o (found_behind x)).header) none

pub headless_seen : (id : Option ℕ) (second : ℕ) (file : StoreFile) (seen : StoreSeen) → front_header file.front.items ≡ None → seen.findings.items ≡ headless file.front.items ∷ [] → seen.known ≡ None
    → (bytes : List ℕ) → HasBytes file bytes → IsSeen id second bytes seen
headless_seen id second file seen none found known bytes has =
    let gone : (stored bytes).header ≡ None = header_none bytes (sym (front_same bytes) ∙ ap front_header (sym has.front) ∙ none) in
    record {
      findings = found ∙ ap (λ (l : List ℕ). headless l ∷ []) has.front ∙ ap (λ (f : Finding). f ∷ []) (headless_same bytes) ∙ ap (findings_by id second bytes) (sym gone);
      known = rw known gone;
    }

-- ---- with one

record Holds (front : Front) (bytes : List ℕ) (its : List Item) : Type 0 where
  header : (stored bytes).header ≡ Some front.header
  items : its ≡ (stored bytes).items
  format : front.format ≡ format_by (is_segmented bytes)

header_some : (x : List ℕ) (h : Header) → front_header x ≡ Some h → (stored x).header ≡ Some h
header_some x h some = ap (λ (o : Option Header). (stored_under o (found_behind x)).header) some

items_some : (x : List ℕ) (h : Header) → front_header x ≡ Some h → (stored x).items ≡ items_of (found_behind x).0
items_some x h some = ap (λ (o : Option Header). (stored_under o (found_behind x)).items) some

holds : (front : Front) (file : StoreFile) (bytes : List ℕ) (its : List Item) → HasFront front file.front.items → its ≡ items_of (found_behind file.front.items).0 → HasBytes file bytes → Holds front bytes its
holds front file bytes its is are has =
    let some : front_header bytes ≡ Some front.header = sym (front_same bytes) ∙ ap front_header (sym has.front) ∙ is.header in
    record {
      header = header_some bytes front.header some;
      items = are ∙ ap (λ (l : List ℕ). items_of (found_behind l).0) has.front ∙ items_same bytes ∙ sym (items_some bytes front.header some);
      format = is.format ∙ ap (λ (l : List ℕ). format_by (is_segmented l)) has.front ∙ ap format_by (segmented_same bytes);
    }

-- kind by kind
in_order : (other first tails its ahead f1 f2 f3 f4 f5 : List Finding) → f1 ≡ [] ++ other → f2 ≡ f1 ++ first → f3 ≡ f2 ++ tails → f4 ≡ f3 ++ its → f5 ≡ f4 ++ ahead → f5 ≡ other ++ first ++ tails ++ its ++ ahead
in_order other first tails its ahead f1 f2 f3 f4 f5 e1 e2 e3 e4 e5 =
    e5 ∙ ap (λ (l : List Finding). l ++ ahead) (e4 ∙ ap (λ (l : List Finding). l ++ its) (e3 ∙ ap (λ (l : List Finding). l ++ tails) (e2 ∙ ap (λ (l : List Finding). l ++ first) e1)))

-- all that was found of a file
pub record Found (id : Option ℕ) (second : ℕ) (front : Front) (file : StoreFile) (its : List Item) (found : List Finding) : Type 0 where
  pub is : found ≡ listed (is_other id front.header) (OtherId front.header.id) ++ listed (is_first front.format) FirstFormat ++ (tails_of front.format file.front.items ++ past_limit file.size)
      ++ findings_of_items front.header its ++ store_ahead second front.header (last_moment its)

pub all_found : (id : Option ℕ) (second : ℕ) (front : Front) (file : StoreFile) (its : List Item) (tails f1 f2 f3 f4 f5 : List Finding) (items : List Finding) (last : ℕ)
    → f1 ≡ [] ++ listed (is_other id front.header) (OtherId front.header.id) → f2 ≡ f1 ++ listed (is_first front.format) FirstFormat
    → f3 ≡ f2 ++ tails → tails ≡ tails_of front.format file.front.items ++ past_limit file.size
    → f4 ≡ f3 ++ items → items ≡ findings_of_items front.header its → f5 ≡ f4 ++ store_ahead second front.header last → last ≡ last_moment its
    → Found id second front file its f5
all_found id second front file its tails f1 f2 f3 f4 f5 items last e1 e2 e3 tails_are e4 items_are e5 last_is =
    let other = listed (is_other id front.header) (OtherId front.header.id) in
    let first = listed (is_first front.format) FirstFormat in
    let past : List Finding = tails_of front.format file.front.items ++ past_limit file.size in
    record {
      is = in_order other first past (findings_of_items front.header its) (store_ahead second front.header (last_moment its)) f1 f2 f3 f4 f5 e1 e2
          (e3 ∙ ap (λ (l : List Finding). f2 ++ l) tails_are) (e4 ∙ ap (λ (l : List Finding). f3 ++ l) items_are) (e5 ∙ ap (λ (l : ℕ). f4 ++ store_ahead second front.header l) last_is);
    }

pub under_seen : (id : Option ℕ) (second : ℕ) (front : Front) (file : StoreFile) (its : List Item) (seen : StoreSeen) (known : StoreKnown)
    → HasFront front file.front.items → its ≡ items_of (found_behind file.front.items).0 → Found id second front file its seen.findings.items
    → seen.known ≡ Some known → KnowsStore front.header its known → (bytes : List ℕ) → HasBytes file bytes → IsSeen id second bytes seen
under_seen id second front file its seen known is are found some knows bytes has =
    let h = holds front file bytes its is are has in
    let other = listed (is_other id front.header) (OtherId front.header.id) in
    let kept : KnowsStore known.header (stored bytes).items known =
    subst (λ (i : List Item). KnowsStore known.header i known) h.items (subst (λ (x : Header). KnowsStore x its known) (sym knows.header_is) knows) in
    let same : (stored bytes).header ≡ Some known.header = h.header ∙ ap (λ (x : Header). Some x) (sym knows.header_is) in
    record {
      findings =
          found.is
          ∙ ap (λ (l : List ℕ). other ++ listed (is_first front.format) FirstFormat ++ (tails_of front.format l ++ past_limit file.size) ++ findings_of_items front.header its ++ store_ahead second front.header (last_moment its)) has.front
          ∙ ap (λ (n : ℕ). other ++ listed (is_first front.format) FirstFormat ++ (tails_of front.format (take max_file bytes) ++ past_limit n) ++ findings_of_items front.header its ++ store_ahead second front.header (last_moment its)) has.size
          ∙ ap (λ (f : Format). other ++ listed (is_first f) FirstFormat ++ trailing f bytes ++ findings_of_items front.header its ++ store_ahead second front.header (last_moment its)) h.format
          ∙ ap (λ (i : List Item). other ++ listed (is_first (format_by (is_segmented bytes))) FirstFormat ++ trailing (format_by (is_segmented bytes)) bytes ++ findings_of_items front.header i ++ store_ahead second front.header (last_moment i)) h.items
          ∙ ap (findings_by id second bytes) (sym h.header);
      known = rw some (record { header = same; knows = kept });
    }
