-- What printers say of a file.
use Rattle.source_listing.proofs.Common.{◌≡◌, ℕ, List, ap, ◌∙◌, Bor, Edition, FilePlaces, PlacedText, Printer, Source, IsPrinterOf, IsSameFile, file_of, places_of}

abbrev made : List ℕ → List ℕ → Source
made path text = record { path = path; text = text }

-- a printer's file is the one that it is made for
pub file_is : (s : Source) (places : FilePlaces) (edition : Edition) (p : Printer) → IsPrinterOf s places edition p → file_of p ≡ s
file_is s places edition p h = ap (λ path. made path p.finder.text) h.0 ∙ ap (λ (t : PlacedText). made s.path t.text) h.2

-- and so are its places
pub places_are : (s : Source) (places : FilePlaces) (edition : Edition) (p : Printer) → IsPrinterOf s places edition p → places_of p ≡ places
places_are s places edition p h = ap (λ (t : PlacedText). t.places) h.2

-- all that is said of a printer
pub record Setting : Type 0 where
  pub file : Source
  pub reserved : List (List ℕ)
  pub places : FilePlaces

abbrev set : List ℕ → Edition → PlacedText → Setting
set path edition t = record { file = made path t.text; reserved = edition.reserved.items; places = t.places }

abbrev pub setting : Printer → Setting
setting p = set p.path.now p.edition.now p.finder

-- it stays
pub setting_same : (old new : Printer) → IsSameFile old new → setting new ≡ setting old
setting_same old new h =
    ap (λ (path : Bor (List ℕ)). set path.now new.edition.now new.finder) h.0 ∙ ap (λ (e : Bor Edition). set old.path.now e.now new.finder) h.1 ∙ ap (set old.path.now old.edition.now) h.2

pub same_through : (p q r : Printer) → IsSameFile p q → IsSameFile q r → IsSameFile p r
same_through p q r g h = (h.0 ∙ g.0, h.1 ∙ g.1, h.2 ∙ g.2)
