-- Books that were read, and then looked at.
use Rattle.std.proofs.Common.{◌≡◌, ℕ, map, List, [], ◌∷◌, Option, Some, None, refl, sym, ap, ◌∙◌}
use Rattle.std.specs.List.{AllZip}
use Rattle.book_inspect.specs.declared.book.BookRead.{BookRead}
use Rattle.book_inspect.specs.declared.book.BookSeen.{BookSeen}
use Rattle.inspect_call.specs.Looked.{ReadsBook, SeesBook, LooksAt}

seen_as_read : (id second : ℕ) (reads : Option (List ℕ)) (r : BookRead) (b : BookSeen) → LooksAt id second r b → ReadsBook reads r → SeesBook id second reads b
seen_as_read id second None r b looks is = tt
seen_as_read id second (Some bytes) r b looks is = looks.1 bytes is

pub sees_each : (id second : ℕ) (books : List (Option (List ℕ))) (rs : List BookRead) (bs : List BookSeen) → AllZip (LooksAt id second) rs bs → AllZip ReadsBook books rs → AllZip (SeesBook id second) books bs
sees_each id second [] [] [] zip reads = tt
sees_each id second [] [] (b ∷ bs) zip reads = absurd zip
sees_each id second [] (r ∷ rs) bs zip reads = absurd reads
sees_each id second (s ∷ ss) [] bs zip reads = absurd reads
sees_each id second (s ∷ ss) (r ∷ rs) [] zip reads = absurd zip
sees_each id second (s ∷ ss) (r ∷ rs) (b ∷ bs) zip reads = (seen_as_read id second s r b zip.0 reads.0, sees_each id second ss rs bs zip.1 reads.1)

pub kept_each : (id second : ℕ) (rs : List BookRead) (bs : List BookSeen) → AllZip (LooksAt id second) rs bs → map (λ (r : BookRead). r.payloads) rs ≡ map (λ (b : BookSeen). b.payloads) bs
kept_each id second [] [] zip = refl
kept_each id second [] (b ∷ bs) zip = absurd zip
kept_each id second (r ∷ rs) [] zip = absurd zip
kept_each id second (r ∷ rs) (b ∷ bs) zip = ap (λ (p : List (List ℕ)). p ∷ map (λ (x : BookRead). x.payloads) rs) (sym zip.0.0) ∙ ap (λ (ps : List (List (List ℕ))). b.payloads ∷ ps) (kept_each id second rs bs zip.1)
