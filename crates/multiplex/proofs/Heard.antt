-- What a desk has said to itself is heard.
use Rattle.std.proofs.Common.{◌≡◌, ◌⊎◌, inl, inr, refl, sym, ap, subst, ◌∙◌, ℕ, List, [], ◌∷◌, ◌++◌}
use Rattle.std.proofs.Common.{None, Some, Bool, false, true}
use Rattle.answers.specs.declared.desk.Desk.{Ghosts as DeskOf}
use Rattle.connections.specs.Connections.{AreServedInTurn, Point, Served, begun_of}
use Rattle.connections.proofs.Interleaving.{begun_both}
use Rattle.serving.specs.Connection.{Begun, frames_of, sides}
use Rattle.serving.specs.{Kinds.message_next, Sessions.outside}
use Rattle.serving.specs.Making.{Way, outside_of, speaking}
use Rattle.serving.specs.Turns.{Advances, IsFree, LeavesAt, Talk, moment, sides_at}
use Rattle.serving.specs.declared.peers.Peers.{Ghosts as PeersOf}
use Rattle.store.specs.declared.home.Home.{Home}
use Rattle.wire.specs.declared.{frame.Frame.Frame, values.Version.Version}
use Rattle.multiplex.{specs.Passing.AreMessages, proofs.Walking.all_messages}
use Rattle.multiplex.specs.model.Ticks.{Desks, desks}
use Rattle.multiplex.specs.model.Visiting.{HearsAll, HearsBytes, HearsFirst, HearsNext}
use Rattle.multiplex.specs.model.Visiting.{HearsOwn, HearsWhere}
use Rattle.multiplex.specs.model.Visiting.{SettlesDesks, point_at}
use Rattle.serving.specs.declared.permission.Permission.TheVariants as permission

pub heard_none : {V U : Type 0} (d : DeskOf V) (p : PeersOf U) (version : Version) (home : Home)
    (a : Desks V U) → HearsOwn d p version home a a
heard_none d p version home a = ([], (tt, refl))

pub first_none : {V U : Type 0} (d : DeskOf V) (p : PeersOf U) (version : Version) (home : Home)
    (waiting : List Frame) (a : Desks V U) → HearsFirst d p version home waiting waiting a a
first_none d p version home waiting a = record { heard = []; served = (tt, refl); first = refl }

point_same : {V U : Type 0} (d : DeskOf V) (p : PeersOf U) (version : Version) (node : V)
    (peers kept : U) → p.handed kept ≡ p.handed peers
    → point_at d p version (desks node kept) ≡ point_at d p version (desks node peers)
point_same d p version node peers kept same =
    ap (λ z.
    let way = speaking d.handles d.settles version in
    let point : Point way = record { seen = d.seen node; outside = outside_of way node z } in point)
    same

-- nothing was handed over before
pub heard_after : {V U : Type 0} (d : DeskOf V) (p : PeersOf U) (version : Version) (home : Home)
    (node : V) (peers kept : U) (b : Desks V U) → p.handed kept ≡ p.handed peers
    → HearsOwn d p version home (desks node kept) b → HearsOwn d p version home (desks node peers) b
heard_after d p version home node peers kept b same h = (
  h.0,
  (
    h.1.0,
    subst (λ z. AreServedInTurn home z h.0 (point_at d p version b))
        (point_same d p version node peers kept same) h.1.1,
  ),
)

-- one more is served
served_then : {V : Type 0} {way : Way V} (home : Home) (a m b : Point way) (fs : List Served)
    (f : Served) → AreServedInTurn home a fs m
    → LeavesAt f.leaves home (sides m.seen (Some []) m.outside)
    (sides b.seen (Some f.answer) b.outside) f.one f.count → AreServedInTurn home a (fs ++ f ∷ []) b
served_then {V} {way} home a m b [] f is h =
    subst (λ (z : Point way). AreServedInTurn home z (f ∷ []) b) (sym is) (b, h, refl)
served_then home a m b (x ∷ fs) f h k =
    (h.0, h.1, served_then home h.0 m b fs f h.2 k)

own_bytes : {V U : Type 0} (d : DeskOf V) (p : PeersOf U) (version : Version) (home : Home)
    (bytes : List ℕ) (a b : Desks V U) → (b ≡ a) ⊎ HearsBytes d p version home bytes a b
    → HearsOwn d p version home a b
own_bytes d p version home bytes a b (inl same) =
    subst (λ z. HearsOwn d p version home a z) (sym same) (heard_none d p version home a)
own_bytes d p version home bytes a b (inr h) =
    let first = h.3.first in
    subst (λ (z : Home). HearsOwn d p version z a b) h.2.0.home
    (subst (λ (z : Version). HearsOwn d p z h.0.home a b) h.2.0.wire (first.heard, first.served))

-- the frame that was served is the next one
frames_then : (fs : List Served) (f : Served) (left : List Frame)
    → frames_of (begun_of fs) ++ f.one.frame ∷ left ≡ frames_of (begun_of (fs ++ f ∷ [])) ++ left
frames_then [] f left = refl
frames_then (x ∷ fs) f left = ap (λ z. x.one.frame ∷ z) (frames_then fs f left)

pub heard_more : {V U : Type 0} (d : DeskOf V) (p : PeersOf U) (version : Version) (home : Home)
    (waiting : List Frame) (start a b : Desks V U) (old new : Talk) → old.home ≡ home
    → old.wire ≡ version → message_next old.waiting ≡ true
    → HearsFirst d p version home waiting old.waiting start a
    → Advances d p permission.All None true (moment a.node a.peers old) (moment b.node b.peers new)
    → HearsFirst d p version home waiting new.waiting start b
heard_more d p version home waiting start a b old new same wire next h adv =
    let one : Begun = adv.0 in
    let f : Served =
    record {
      number = 0;
      one = one;
      count = new.frames;
      answer = new.pending;
      leaves = new.end;
    } in
    let placed = subst (λ (z : Home). LeavesAt new.end z
    (sides_at d p old.wire (moment a.node a.peers old))
    (sides_at d p old.wire (moment b.node b.peers new)) one new.frames) same adv.2 in
    let spoken = subst (λ (z : Version). LeavesAt new.end home
    (sides_at d p z (moment a.node a.peers old)) (sides_at d p z (moment b.node b.peers new)) one
    new.frames) wire placed in
    let free = subst (λ (z : List ℕ). LeavesAt new.end home
    (sides (d.seen a.node) (Some z) (outside d p version a.node a.peers))
    (sides_at d p version (moment b.node b.peers new)) one new.frames) adv.1.free.taken spoken in
    record {
      heard = h.heard ++ f ∷ [];
      served = (
        subst (λ z. AreMessages z) (sym (begun_both h.heard (f ∷ [])))
            (all_messages (begun_of h.heard) (one ∷ []) h.served.0
            (sym (ap message_next adv.1.next) ∙ next, tt)),
        served_then home (point_at d p version start) (point_at d p version a)
            (point_at d p version b) h.heard f h.served.1 free,
      );
      first =
          h.first ∙ ap (λ z. frames_of (begun_of h.heard) ++ z) adv.1.next
          ∙ frames_then h.heard f new.waiting;
    }

-- no frame was begun though a message is next: the connection ended, or something is to be sent
pub heard_rest : {V U : Type 0} (d : DeskOf V) (p : PeersOf U) (start a b : Desks V U)
    (first old new : Talk) → message_next old.waiting ≡ true
    → HearsFirst d p first.wire first.home first.waiting old.waiting start a
    → Advances d p permission.All None false (moment a.node a.peers old) (moment b.node b.peers new)
    → HearsNext d p first new start b
heard_rest d p start a b first old new next h (node, peers, inl same) = record {
  first =
      subst (λ n. HearsFirst d p first.wire first.home first.waiting new.waiting start
      (desks n b.peers)) (sym node) (subst (λ u. HearsFirst d p first.wire first.home first.waiting
      new.waiting start (desks a.node u)) (sym peers) (subst (λ (t : Talk). HearsFirst d p
      first.wire first.home first.waiting t.waiting start a) (sym same.1) h));
  all = λ free. absurd (same.0 (subst (λ (t : Talk). IsFree t) same.1 free));
}
heard_rest d p start a b first old new next h (node, peers, inr out) =
    absurd (let no : false ≡ true = sym (ap message_next out.served) ∙ next in cc)

pub hears_off : {V U : Type 0} (d : DeskOf V) (p : PeersOf U) (waits : U → List ℕ) (hears : Bool)
    (version : Version) (home : Home) (a : Desks V U) → hears ≡ false
    → HearsWhere d p waits hears version home a a
hears_off d p waits hears version home a off = rw off refl

pub hears_on : {V U : Type 0} (d : DeskOf V) (p : PeersOf U) (waits : U → List ℕ) (hears : Bool)
    (version : Version) (home : Home) (a b : Desks V U) → hears ≡ true
    → HearsAll d p waits version home a b → HearsWhere d p waits hears version home a b
hears_on d p waits hears version home a b on h = rw on h

-- what is heard where it is to be heard, or not
pub own_where : {V U : Type 0} (d : DeskOf V) (p : PeersOf U) (waits : U → List ℕ) (hears : Bool)
    (version : Version) (home : Home) (a b : Desks V U)
    → HearsWhere d p waits hears version home a b → HearsOwn d p version home a b
own_where d p waits false version home a b same =
    subst (λ z. HearsOwn d p version home a z) (sym same) (heard_none d p version home a)
own_where d p waits true version home a b h =
    heard_after d p version home a.node a.peers h.taken b h.handed
    (own_bytes d p version home (waits a.peers) (desks a.node h.taken) b h.heard)

-- so it is at the home of the desk
pub settles_at : {V U : Type 0} (d : DeskOf V) (p : PeersOf U) (version : Version) (home : Home)
    (ok : Bool) (a b : Desks V U) → d.home_of a.node ≡ home
    → SettlesDesks d p version (d.home_of a.node) ok a b → SettlesDesks d p version home ok a b
settles_at d p version home ok a b same h =
    subst (λ (z : Home). SettlesDesks d p version z ok a b) same h
