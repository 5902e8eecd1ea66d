-- Lists side by side, place by place, and lists that are lent.
use Rattle.std.proofs.Common.{◌≡◌, ℕ, ◌≤◌, List, ◌++◌, length, take, drop, subst}
use Rattle.std.specs.List.{AllZip}
use Rattle.std.proofs.lemmas.List.{take_all}
use Rattle.std.proofs.Math.Seq.{take-append_seam}

-- a loop that is done
pub AllZip_all : {X Y : Type 0} (P : X → Y → Type 0) (xs : List X) (ys : List Y) (i : ℕ) → length xs ≤ i → length ys ≤ i → AllZip P (take i xs) (take i ys) → AllZip P xs ys
AllZip_all {X} {Y} P xs ys i h l all = subst (λ (zs : List Y). AllZip P xs zs) (take_all i ys l) (subst (λ (zs : List X). AllZip P zs (take i ys)) (take_all i xs h) all)

-- what is written into a list that was lent as a slice
pub written : {Y : Type 0} (n : ℕ) (news olds : List Y) → length news ≡ n → take n (news ++ drop (length news) olds) ≡ news
written n news olds e = subst (λ (k : ℕ). take k (news ++ drop (length news) olds) ≡ news) e (take-append_seam news (drop (length news) olds))
