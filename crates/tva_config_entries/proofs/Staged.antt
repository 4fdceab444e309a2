-- The steps of reading, cut as the functions of the code take them, give what they give in one.
use Rattle.tva_config_entries.proofs.Common.{◌≡◌, ◌+◌, length, [], Ok, Err, codes, refl, Members, Read, ◌>>=◌, top, only_listed, required, optional, top_keys, at_most, top_of, tables_of, counts_of, all_entries_of, members_read}
use Rattle.tva_config_entries.specs.declared.faults.ConfigTable.TheVariants as table
use Rattle.tva_config_entries.specs.Values as value

-- a step after two others, where the second and it are one
pub deeper : {A B C : Type 0} (r : Read A) (f : A → Read B) (g : B → Read C) (h : A → Read C)
    → ((x : A) → (f x >>= g) ≡ h x) → ((r >>= f) >>= g) ≡ (r >>= h)
deeper (Ok x) f g h same = same x
deeper (Err fault) f g h same = refl

pub members_staged : (ms : Members)
    → (top_of ms >>= (λ t. counts_of (length t.routers + length t.hosts) (length t.links) (length t.routes) (length t.restarts) (length t.reroutes)
    >>= (λ few. all_entries_of t))) ≡ members_read ms
unfolding members_read top_of tables_of counts_of all_entries_of
members_staged ms =
    deeper (only_listed top top_keys ms) _ _ _ (λ known.
    deeper (required top ms (codes "horizon_ns") (value.number 0 1000000000000000)) _ _ _ (λ horizon.
    deeper (required top ms (codes "max_events") (value.number 1 4000000)) _ _ _ (λ max_events.
    deeper (optional top ms (codes "version") (value.number 1 2) 1) _ _ _ (λ version.
    deeper (optional top ms (codes "router") value.tables []) _ _ _ (λ routers.
    deeper (optional top ms (codes "host") value.tables []) _ _ _ (λ hosts.
    deeper (optional top ms (codes "link") value.tables []) _ _ _ (λ links.
    deeper (optional top ms (codes "route") value.tables []) _ _ _ (λ routes.
    deeper (optional top ms (codes "restart") value.tables []) _ _ _ (λ restarts.
    deeper (optional top ms (codes "reroute") value.tables []) _ _ _ (λ reroutes.
    deeper (at_most 1024 table.Host (length routers + length hosts)) _ _ _ (λ few_nodes.
    deeper (at_most 4096 table.Link (length links)) _ _ _ (λ few_links.
    deeper (at_most 65536 table.Route (length routes)) _ _ _ (λ few_routes.
    deeper (at_most 65536 table.Restart (length restarts)) _ _ _ (λ few_restarts. refl))))))))))))))
